use Rattle.std.proofs.Common.{◌≡◌, arith, subst}
use Rattle.cur_screens.specs.Marks.{JoinsLines}
use Rattle.cur_screens.proofs.MarkFacts.{next_joined, none_joined}
use Rattle.cur_screens.proofs.marks.join_lines.Goals as goal

pub loop-k-init : goal.loop-k-init
loop-k-init c = none_joined c.args.marks.now c.args.other.now c.args.lines c.args.cols

pub loop-k-preserved : goal.loop-k-preserved
loop-k-preserved c = next_joined c.args.marks.now c.args.other.now c.loop-k.marks c.join_line.new.marks c.args.lines c.loop-k.k c.args.cols c.loop-k.invariant c.join_line.ensures

pub returns : goal.returns
returns c =
    let all : c.loop-k.k ≡ c.args.lines.size = omega (arith, c.loop-k-test.false, c.loop-k.auto.k-end) in
    subst (λ k. JoinsLines c.args.marks.now c.args.other.now c.args.lines k c.args.cols c.loop-k.marks) all c.loop-k.invariant
