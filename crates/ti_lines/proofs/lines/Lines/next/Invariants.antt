use Rattle.std.proofs.Common.{◌≡◌, ◌≤◌, ◌+◌, ◌-◌, length, take, None}
use Rattle.ti_lines.specs.Lines.{Takes}
use Rattle.ti_lines.specs.Text.{line_end}
use Rattle.ti_lines.proofs.lines.Lines.next.Given as goal

abbrev pub invariant-loop-at : goal.invariant-loop-at
invariant-loop-at g l = record {
  takes : Takes g.R.Reader.left g.R.Reader.failures l.initial.self l.initial.reader l.self l.reader;
  within : l.seen ≤ length l.self.unread;
  none : line_end (take l.seen l.self.unread) ≡ None;
}

abbrev pub decreases-loop-at : goal.decreases-loop-at
decreases-loop-at g l = l.self.budget + 1 - length l.self.unread
