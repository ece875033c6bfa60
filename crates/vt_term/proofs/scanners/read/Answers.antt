use Rattle.std.proofs.Common.{ℕ, ◌++◌, ◌∷◌, [], List, ◌∙◌, ap, sym, get_or, arith}
use Rattle.vt_term.proofs.Sequences.{empty_open}
use Rattle.vt_term.proofs.Starts.{begun_nothing, read_ended, read_stuck, slice_more}
use Rattle.vt_term.proofs.scanners.read.Goals as goal

pub loop-at-init : goal.loop-at-init
loop-at-init c = rw c.requires.nothing (record {
  ordered = omega arith;
  within = c.requires.within;
  read = begun_nothing c.args.text.now c.args.from;
  fits = empty_open;
})

pub returns-in-Ends-clause-token : goal.returns-in-Ends-clause-token
returns-in-Ends-clause-token c = rw c.ended_by.ensures (read_ended c.args.text.now c.loop-at.parser c.args.from c.loop-at.at c.loop-at.invariant.ordered c.loop-at-test.true c.loop-at.invariant.read c.in-Ends.ensures.transition)

pub returns-in-Fails-clause-fault : goal.returns-in-Fails-clause-fault
returns-in-Fails-clause-fault c = rw c.stuck.ensures (record {
  behind = c.loop-at.invariant.ordered;
  is = read_stuck c.args.text.now c.loop-at.parser c.args.from c.loop-at.at c.loop-at.invariant.ordered c.loop-at-test.true c.loop-at.invariant.read c.loop-at.invariant.fits c.in-Fails.ensures.transition;
})

pub loop-at-preserved : goal.loop-at-preserved
loop-at-preserved c = record {
  ordered = omega (arith, c.loop-at.invariant.ordered);
  within = omega (arith, c.loop-at-test.true);
  read = c.open.ensures ∙ ap (λ (l : List ℕ). l ++ get_or c.args.text.now c.loop-at.at 0 ∷ []) c.loop-at.invariant.read ∙ sym (slice_more c.args.text.now c.args.from c.loop-at.at c.loop-at.invariant.ordered c.loop-at-test.true);
  fits = rw c.open.ensures c.in-Opens.ensures.transition;
}
