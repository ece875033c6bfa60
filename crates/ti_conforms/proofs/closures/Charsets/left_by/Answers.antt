use Rattle.std.proofs.Common.{◌≡◌, ◌<◌, ◌+◌, ℕ, true, false, sym, ap, ◌∙◌, subst}
use Rattle.std.proofs.lemmas.Bool.{false≢true}
use Rattle.vt_term.specs.Screen.{Charset}
use Rattle.ti_conforms.specs.declared.closures.Charsets.{Charsets}
use Rattle.ti_conforms.specs.Charsets.{can_have}
use Rattle.ti_conforms.specs.Closures.{Leaves, designated_all, has}
use Rattle.ti_conforms.proofs.Settlements.{AllLeft, left_sound, all_left}
use Rattle.ti_conforms.proofs.closures.Charsets.left_by.Goals as goal
use Rattle.ti_conforms.proofs.closures.Charsets.left_by.Goals.{then-can_have, else-can_have}

pub loop-number-preserved : goal.loop-number-preserved
loop-number-preserved c = elim c.if-can_have.branch [
  | then-can_have w ↦ record {
    sound = subst (λ (z : Charsets). (d : Charset) → has z d ≡ true → Leaves c.args.reach c.args.changes.now d) (sym w.left-is)
        (left_sound c.args.reach c.args.changes.now c.loop-number.left w.add.new.self w.designated_all.result c.charset_at-charset.result (sym c.can_have.ensures ∙ w.if-can_have.true) w.designated_all.ensures c.loop-number.invariant.sound w.add.ensures.only);
    complete = subst (λ (z : Charsets). (k : ℕ) → k < c.loop-number.number + 1 → AllLeft c.args.reach c.args.changes.now z k) (sym w.left-is)
        (all_left c.args.reach c.args.changes.now c.loop-number.left w.add.new.self c.loop-number.number c.loop-number.invariant.complete w.add.ensures.old
        (λ x e h. ap (λ (z : Charset). has w.add.new.self z) (ap (λ (z : Charset). designated_all c.args.changes.now z) (sym (c.charset_at-charset.ensures x e)) ∙ sym w.designated_all.ensures) ∙ w.add.ensures.new));
  }
  | else-can_have w ↦ record {
    sound = subst (λ (z : Charsets). (d : Charset) → has z d ≡ true → Leaves c.args.reach c.args.changes.now d) (sym w.left-is) c.loop-number.invariant.sound;
    complete = subst (λ (z : Charsets). (k : ℕ) → k < c.loop-number.number + 1 → AllLeft c.args.reach c.args.changes.now z k) (sym w.left-is)
        (all_left c.args.reach c.args.changes.now c.loop-number.left c.loop-number.left c.loop-number.number c.loop-number.invariant.complete (λ d h. h)
        (λ x e h. let no : false ≡ true = sym w.if-can_have.false ∙ (c.can_have.ensures ∙ (ap (λ (z : Charset). can_have c.args.reach z) (c.charset_at-charset.ensures x e) ∙ h)) in absurd (false≢true no)));
  }
]
