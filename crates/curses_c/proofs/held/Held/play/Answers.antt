use Rattle.std.proofs.Common.{rules, ℕ, ap}
use Rattle.curses_c.specs.Held.{noting}
use Rattle.curses_c.proofs.held.Held.play.Goals as goal

pub returns : goal.returns
returns c = record {
  done = c.calls-made.result.done;
  answer = c.calls-made.result.answer;
  last = c.calls-made.new.self;
  makes = c.calls-made.ensures;
  noted = ap (λ (n : ℕ). noting n c.calls-made.new.self) c.line_left-self.ensures;
  number = search rules;
}
