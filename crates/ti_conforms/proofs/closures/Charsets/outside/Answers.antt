use Rattle.std.proofs.Common.{below_more, ◌≡◌, ◌<◌, true, false, refl, arith, ap, ◌∙◌, subst, sym}
use Rattle.std.proofs.lemmas.Bool.{false≢true}
use Rattle.vt_term.specs.Screen.{Charset}
use Rattle.ti_conforms.specs.Closures.{StaysFrom, has, charset_number}
use Rattle.ti_conforms.proofs.Settlements.{number_small, none_there}
use Rattle.ti_conforms.proofs.closures.Charsets.outside.Goals as goal
use Rattle.ti_conforms.proofs.closures.Charsets.outside.Goals.{then-has+else-is_some, else-has}

pub loop-number-preserved : goal.loop-number-preserved
loop-number-preserved c = below_more _ _ c.loop-number.invariant (λ x e h.
    let same : c.charset_at-charset.result ≡ x = c.charset_at-charset.ensures x e in
    subst (λ (z : Charset). StaysFrom c.args.self.now c.args.changes.now z) same
    (elim c.if-has.branch [
      | then-has+else-is_some w ↦ none_there w.outside_from-outside.result (sym w.if-is_some.false ∙ w.is_some.ensures) w.outside_from-outside.ensures.none
      | else-has w ↦ let no : false ≡ true = sym w.if-has.false ∙ (c.has.ensures ∙ (ap (λ (z : Charset). has c.args.self.now z) same ∙ h)) in absurd (false≢true no)
    ]))

pub returns-clause-none : goal.returns-clause-none
returns-clause-none c = λ x h. let lt : charset_number x < c.loop-number.number = omega (arith, number_small x) in c.loop-number.invariant (charset_number x) lt x refl h
