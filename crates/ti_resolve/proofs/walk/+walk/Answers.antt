use Rattle.std.proofs.Common.{sym, ◌∙◌, ◌≡◌, Option, Some, ℕ, subst, arith}
use Rattle.std.specs.Prelude.{IfSome}
use Rattle.std.proofs.lemmas.Result.{IfErr-weaker, err_from_is_err_and}
use Rattle.ti_resolve.specs.Faults.{Includes, by_use}
use Rattle.ti_resolve.specs.Uses.{place_named}
use Rattle.ti_resolve.specs.Walk.{FailsBy}
use Rattle.ti_resolve.proofs.FaultyFacts.{all_included, ends_after, of_field}
use Rattle.ti_resolve.proofs.Told.{told_fails, enter_none, enter_is, goes_on, stops, ends}
use Rattle.ti_resolve.proofs.walk.+walk.Goals as goal

pub enter-returns-then-depth-eq0-clause-walk : goal.enter-returns-then-depth-eq0-clause-walk
enter-returns-then-depth-eq0-clause-walk t c =
    told_fails _ _ _ c.too_many.ensures (enter_none c.args.depth c.args.index.now.raws.now c.args.trail.now.chain.items c.args.to.name.now c.args.to.place c.args.trail.now.entered.items c.if-depth-eq0.true)

pub enter-returns-in_err-follow_all-clause-walk : goal.enter-returns-in_err-follow_all-clause-walk
enter-returns-in_err-follow_all-clause-walk t c =
    let p = err_from_is_err_and c.from_residual-in_err-follow_all.result c.from_residual-in_err-follow_all.ensures.1 in
    let is = enter_is c.args.depth c.args.index.now.raws.now c.args.trail.now.chain.items c.args.to.name.now c.args.to.place c.args.trail.now.entered.items _ _ _ c.if-depth-eq0.false c.in_ok-push.ensures.items c.in_ok-push-2.ensures.items c.fields_of.ensures in
    rw (p.1, p.2) (subst (FailsBy c.in_err-follow_all.field-0.0) is c.in_err-follow_all.ensures.walk)

pub enter-returns-clause-walk : goal.enter-returns-clause-walk
enter-returns-clause-walk t c =
    sym (enter_is c.args.depth c.args.index.now.raws.now c.args.trail.now.chain.items c.args.to.name.now c.args.to.place c.args.trail.now.entered.items _ _ _ c.if-depth-eq0.false c.in_ok-push.ensures.items c.in_ok-push-2.ensures.items c.fields_of.ensures) ∙ c.in_ok-follow_all.ensures.walk

pub follow_all-returns-in_err-follow_field-clause-walk : goal.follow_all-returns-in_err-follow_field-clause-walk
follow_all-returns-in_err-follow_field-clause-walk t c =
    let p = err_from_is_err_and c.from_residual.result c.from_residual.ensures.1 in
    rw (p.1, p.2)
    (stops c.args.depth c.args.index.now.raws.now c.args.trail.now.chain.items c.loop-field.trail.chain.items c.args.fields.now c.loop-field.field-index c.loop-field.trail.entered.items _ c.field-item.result c.in_err-follow_field.field-0.0 c.loop-field.invariant.chain (omega arith) c.field-item.is c.loop-field.invariant.walk c.in_err-follow_field.ensures.walk)

pub follow_all-loop-field-preserved : goal.follow_all-loop-field-preserved
follow_all-loop-field-preserved t c = record {
  chain = c.in_ok-follow_field.ensures.chain ∙ c.loop-field.invariant.chain;
  walk = goes_on c.args.depth c.args.index.now.raws.now c.args.trail.now.chain.items c.loop-field.trail.chain.items c.args.fields.now c.loop-field.field-index c.loop-field.trail.entered.items _ c.field-item.result _ c.loop-field.invariant.chain (omega arith) c.field-item.is c.loop-field.invariant.walk c.in_ok-follow_field.ensures.walk;
}

pub follow_all-returns-clause-walk : goal.follow_all-returns-clause-walk
follow_all-returns-clause-walk t c =
    ends c.args.depth c.args.index.now.raws.now c.args.trail.now.chain.items c.loop-field.trail.chain.items c.args.fields.now c.loop-field.field-index c.loop-field.trail.entered.items _ (omega arith) c.loop-field.invariant.walk

pub enter-returns-in_err-follow_all-clause-failed : goal.enter-returns-in_err-follow_all-clause-failed
enter-returns-in_err-follow_all-clause-failed t c = λ root reached.
    let p = err_from_is_err_and c.from_residual-in_err-follow_all.result c.from_residual-in_err-follow_all.ensures.1 in
    rw (p.1, p.2) (record {
      full = λ none. absurd (c.if-depth-eq0.false none);
      further = λ some. c.in_err-follow_all.ensures.failed root c.args.to.place c.args.trail.now.chain.items c.in_ok-push.ensures.items reached (all_included c.args.index.now.raws.now c.args.to.place _ c.fields_of.ensures);
    })

pub follow-returns-in-Some-clause-failed : goal.follow-returns-in-Some-clause-failed
follow-returns-in-Some-clause-failed t c = λ root user front is reached includes.
    let leads : place_named c.args.index.now.raws.now c.args.name.now ≡ Some c.in-Some.place = subst (λ (o : Option ℕ). IfSome o (λ place. place_named c.args.index.now.raws.now c.args.name.now ≡ Some place)) c.in-Some.is c.in_ok-lead.ensures.leads in
    IfErr-weaker c.enter.result _ _ (λ fault ended. ends_after c.args.index.now.raws.now root user c.args.depth front c.args.trail.now.chain.items c.enter.new.trail.chain.items c.args.name.now fault ended is reached includes)
    (c.enter.ensures.failed root (by_use user c.in-Some.place c.args.name.now reached includes leads))

pub follow_all-returns-in_err-follow_field-clause-failed : goal.follow_all-returns-in_err-follow_field-clause-failed
follow_all-returns-in_err-follow_field-clause-failed t c = λ root user front is reached all.
    let p = err_from_is_err_and c.from_residual.result c.from_residual.ensures.1 in
    rw (p.1, p.2)
    (c.in_err-follow_field.ensures.failed root user front (c.loop-field.invariant.chain ∙ is) reached (of_field (Includes c.args.index.now.raws.now user) c.args.fields.now c.loop-field.field-index c.field-item.result (omega arith) c.field-item.is all))
