use Rattle.std.proofs.Common.{subst}
use Rattle.ti_steps.specs.Remedies.{IsAdvisedAt}
use Rattle.ti_resolve.specs.Walk.{FailsBy, walk_at}
use Rattle.ti_resolve.specs.declared.faults.ResolveFault.{ResolveFault}
use Rattle.ti_resolve.specs.declared.faults.ResolveFault.TheVariants.{NoSuchEntry, Cycle, TooMany}
use Rattle.ti_steps.proofs.gathering.remedies_at.Goals as goal

-- it can't be resolved
pub returns-in-Err-NoSuchEntry-clause-advised : goal.returns-in-Err-NoSuchEntry-clause-advised
returns-in-Err-NoSuchEntry-clause-advised g c =
    IsAdvisedAt.Unresolved (NoSuchEntry c.in-Err-NoSuchEntry.field-0-0)
    (subst (λ (f : ResolveFault). FailsBy f (walk_at c.args.index.now.raws.now c.args.root)) c.in-Err-NoSuchEntry.field-0-is c.in-Err-NoSuchEntry.ensures.walk) c.new.ensures.items

pub returns-in-Err-Cycle-clause-advised : goal.returns-in-Err-Cycle-clause-advised
returns-in-Err-Cycle-clause-advised g c =
    IsAdvisedAt.Unresolved (Cycle c.in-Err-Cycle.field-0-0)
    (subst (λ (f : ResolveFault). FailsBy f (walk_at c.args.index.now.raws.now c.args.root)) c.in-Err-Cycle.field-0-is c.in-Err-Cycle.ensures.walk) c.new-in-Err-Cycle.ensures.items

pub returns-clause-advised : goal.returns-clause-advised
returns-clause-advised g c =
    IsAdvisedAt.Unresolved (TooMany c.in-Err-TooMany.field-0-0)
    (subst (λ (f : ResolveFault). FailsBy f (walk_at c.args.index.now.raws.now c.args.root)) c.in-Err-TooMany.field-0-is c.in-Err-TooMany.ensures.walk) c.new-in-Err-TooMany.ensures.items
