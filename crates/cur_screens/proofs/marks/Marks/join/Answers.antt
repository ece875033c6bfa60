use Rattle.cur_screens.proofs.MarkFacts.{all_joined}
use Rattle.cur_screens.proofs.marks.Marks.join.Goals as goal

pub returns : goal.returns
returns c = all_joined c.args.self.now c.args.other.now c.join_lines.new.marks c.rows.result c.args.rows c.args.cols c.join_lines.ensures c.rows.ensures.others
