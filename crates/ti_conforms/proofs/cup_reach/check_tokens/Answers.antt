use Rattle.std.proofs.Common.{◌≡◌, ℕ, sym, ◌∙◌, subst}
use Rattle.std.proofs.lemmas.Option.{same_Some}
use Rattle.ti_conforms.proofs.CupLeads.{effect_checked, effect_failed, other_place, told_apart}
use Rattle.ti_conforms.proofs.cup_reach.check_tokens.Goals as goal

pub returns-in-Some-clause-leads : goal.returns-in-Some-clause-leads
returns-in-Some-clause-leads c = effect_checked c.args.size.rows c.args.size.cols c.args.tokens.now c.in-Some.effect c.args.place.row c.args.place.col c.at_rest.result c.check_effect.result c.at_rest.ensures c.in-Some.ensures.runs c.check_effect.ensures.reached

pub returns-in-Some-clause-why : goal.returns-in-Some-clause-why
returns-in-Some-clause-why c = effect_failed c.args.size.rows c.args.size.cols c.args.tokens.now c.in-Some.effect c.args.place.row c.args.place.col c.at_rest.result c.check_effect.result c.args.size.limits c.at_rest.ensures c.in-Some.ensures.runs c.check_effect.ensures.why

pub returns-in-Some-2-clause-why : goal.returns-in-Some-2-clause-why
returns-in-Some-2-clause-why c = other_place c.args.size.rows c.args.size.cols c.args.tokens.now c.args.place.row c.args.place.col c.in-Some-2.field-0.0 c.in-Some-2.field-0.1 c.args.size.limits c.in-Some-2.ensures.leads
    (let same : c.in-Some-place_after.end ≡ c.in-Some-2.field-0 = same_Some _ _ (sym c.in-Some-place_after.is ∙ c.in-Some-2.is) in
    subst (λ (p : ℕ × ℕ). p.0 ≡ c.args.place.row → p.1 ≡ c.args.place.col → ⊥) same (told_apart c.in-Some-place_after.end.0 c.args.place.row c.in-Some-place_after.end.1 c.args.place.col (sym c.eq.ensures ∙ c.if-eq.false)))
