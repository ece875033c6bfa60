use Rattle.std.proofs.Common.{arith, inl, inr}
use Rattle.std.proofs.lemmas.Bool.{cases_lt}
use Rattle.cur_screens.proofs.MarkFacts.{line_joined, line_left}
use Rattle.cur_screens.proofs.marks.join_line.Goals as goal

pub returns-then-line-gt0 : goal.returns-then-line-gt0
returns-then-line-gt0 c =
    line_joined c.args.marks.now c.args.other.now c.mark.new.self c.args.row c.args.cols c.columns-line.result c.mark.ensures (omega arith) c.columns-line.ensures.within c.columns-line.ensures.marked c.columns-line.ensures.others

pub returns-else-line-gt0 : goal.returns-else-line-gt0
returns-else-line-gt0 c = line_left c.args.marks.now c.args.other.now c.args.row c.args.cols (λ j lt. elim (cases_lt j c.columns-line.result.at) [
  | inl low ↦ c.columns-line.ensures.others j lt (inl low)
  | inr past ↦ c.columns-line.ensures.others j lt (inr (omega (arith, past)))
])
