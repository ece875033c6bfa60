use Rattle.std.proofs.Common.{below_more, ◌≡◌, true, false, ap, ◌∙◌, subst, sym}
use Rattle.std.proofs.lemmas.Bool.{false≢true}
use Rattle.vt_term.specs.Screen.{Charset, is_graphic}
use Rattle.vt_effects.specs.Effect.{designated}
use Rattle.ti_conforms.specs.Closures.{has}
use Rattle.ti_conforms.proofs.Settlements.{not_other}
use Rattle.ti_conforms.proofs.closures.Charsets.misled.Goals as goal
use Rattle.ti_conforms.proofs.closures.Charsets.misled.Goals.{else-has-via-then-has+else-is_graphic-graphic, else-has-via-else-has}

pub loop-number-preserved : goal.loop-number-preserved
loop-number-preserved c = below_more _ _ c.loop-number.invariant (λ x e h.
    let same : c.charset_at-charset.result ≡ x = c.charset_at-charset.ensures x e in
    subst (λ (z : Charset). is_graphic (designated c.args.change z) ≡ c.args.graphic) same
    (elim c.else-has.branch [
      | else-has-via-then-has+else-is_graphic-graphic w ↦ ap is_graphic (sym w.designated.ensures) ∙ (sym w.is_graphic.ensures ∙ not_other w.is_graphic.result c.args.graphic w.if-is_graphic-graphic.false)
      | else-has-via-else-has w ↦ let no : false ≡ true = sym w.if-has.false ∙ (c.has.ensures ∙ (ap (λ (z : Charset). has c.args.self.now z) same ∙ h)) in absurd (false≢true no)
    ]))
