use Rattle.std.proofs.Common.{List, sym, subst}
use Rattle.ti_checker.specs.declared.causes.No.{No}
use Rattle.ti_faults.specs.RowFaults.{OfCaps}
use Rattle.ti_faults.proofs.Caps.{no_caps, one_cap_more}
use Rattle.ti_faults.proofs.row_faults.row_faults.Goals as goal

pub loop-place-init : goal.loop-place-init
loop-place-init c = subst (λ (l : List No). OfCaps c.args.entry.now c.args.size.rows c.args.size.cols 0 l) (sym c.new-nos.ensures.items) (no_caps c.args.entry.now c.args.size.rows c.args.size.cols)

pub loop-place-preserved : goal.loop-place-preserved
loop-place-preserved c = one_cap_more c.args.entry.now c.args.size.rows c.args.size.cols c.loop-place.place c.loop-place.nos.items c.push_cap_fault.new.nos.items c.loop-place.invariant c.in_ok-push_cap_fault.ensures
