use Rattle.std.proofs.Common.{ap, ◌∙◌}
use Rattle.vt_term.specs.Screen.{State}
use Rattle.vt_states.specs.Watches.{switches_of}
use Rattle.vt_states.proofs.snapshots.Snapshot.after.Goals as goal

pub invariant_of-snapshot-in-Err : goal.invariant_of-snapshot-in-Err
invariant_of-snapshot-in-Err c =
    let s = rw c.in_ok-terminal.ensures at c.in-Err.ensures.stuck in
    ap (λ (t : State). switches_of t.screen) s.dropped ∙ (c.in_ok-watch-in-Err.ensures c.args.size.rows c.args.size.cols s.reached s.runs).switches
