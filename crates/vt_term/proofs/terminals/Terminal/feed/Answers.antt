use Rattle.std.proofs.Common.{◌≡◌, [], ◌∷◌, ◌+◌, ℕ, List, sym, subst, ◌∙◌, take, get_or, arith}
use Rattle.std.proofs.lemmas.List.{take_more}
use Rattle.vt_term.specs.Run.{Runs}
use Rattle.vt_term.proofs.Runs.{runs_append, runs_further, stuck_behind}
use Rattle.vt_term.proofs.terminals.Terminal.feed.Goals as goal

pub loop-at-preserved-then-taken-gt0 : goal.loop-at-preserved-then-taken-gt0
loop-at-preserved-then-taken-gt0 c = record {
  within = omega (arith, c.take_front-taken.ensures.within);
  runs = runs_further c.args.self.now c.loop-at.self c.take_front-taken.new.self c.args.bytes.now c.loop-at.at c.take_front-taken.result c.loop-at.invariant.runs c.take_front-taken.ensures.runs;
  rows = c.take_front-taken.ensures.rows ∙ c.loop-at.invariant.rows;
  cols = c.take_front-taken.ensures.cols ∙ c.loop-at.invariant.cols;
}

pub loop-at-preserved : goal.loop-at-preserved
loop-at-preserved c =
    let none : c.loop-at.at + c.take_front-taken.result ≡ c.loop-at.at = omega (arith, c.if-taken-gt0.false) in
    let runs : Runs c.args.self.now (take c.loop-at.at c.args.bytes.now) c.take_front-taken.new.self = subst (λ (n : ℕ). Runs c.args.self.now (take n c.args.bytes.now) c.take_front-taken.new.self) none
    (runs_further c.args.self.now c.loop-at.self c.take_front-taken.new.self c.args.bytes.now c.loop-at.at c.take_front-taken.result c.loop-at.invariant.runs c.take_front-taken.ensures.runs) in
    record {
      within = omega (arith, c.loop-at-test.true);
      runs = subst (λ (l : List ℕ). Runs c.args.self.now l c.accept.new.self) (sym (take_more c.args.bytes.now c.loop-at.at 0 c.loop-at-test.true))
          (runs_append c.args.self.now c.take_front-taken.new.self c.accept.new.self (take c.loop-at.at c.args.bytes.now) (get_or c.args.bytes.now c.loop-at.at 0 ∷ []) runs c.if-accept.ensures.accepts);
      rows = c.if-accept.ensures.rows ∙ c.take_front-taken.ensures.rows ∙ c.loop-at.invariant.rows;
      cols = c.if-accept.ensures.cols ∙ c.take_front-taken.ensures.cols ∙ c.loop-at.invariant.cols;
    }

pub returns-else-accept-clause-stuck : goal.returns-else-accept-clause-stuck
returns-else-accept-clause-stuck c =
    let none : c.loop-at.at + c.take_front-taken.result ≡ c.loop-at.at = omega (arith, c.if-taken-gt0.false) in
    let runs : Runs c.args.self.now (take c.loop-at.at c.args.bytes.now) c.take_front-taken.new.self = subst (λ (n : ℕ). Runs c.args.self.now (take n c.args.bytes.now) c.take_front-taken.new.self) none
    (runs_further c.args.self.now c.loop-at.self c.take_front-taken.new.self c.args.bytes.now c.loop-at.at c.take_front-taken.result c.loop-at.invariant.runs c.take_front-taken.ensures.runs) in
    record {
      within = c.loop-at-test.true;
      reached = c.take_front-taken.new.self;
      runs = runs;
      fits_nothing = λ other k. stuck_behind c.args.self.now c.take_front-taken.new.self (take c.loop-at.at c.args.bytes.now) (get_or c.args.bytes.now c.loop-at.at 0 ∷ [])
          runs c.if-accept.ensures.accepts.0 other
          (subst (λ (l : List ℕ). Runs c.args.self.now l other) (take_more c.args.bytes.now c.loop-at.at 0 c.loop-at-test.true) k);
      dropped = c.if-accept.ensures.accepts.1;
    }
