use Rattle.std.proofs.Common.{◌≡◌, ◌++◌, length, map}
use Rattle.ti_source.specs.Layout.{lines_of}
use Rattle.ti_sources.proofs.lined_texts.text_lines.Given as goal

-- the lines so far, and those that are left
abbrev pub invariant-loop-line : goal.invariant-loop-line
invariant-loop-line l = map (λ line. line.now) l.all.items ++ lines_of l.rest ≡ lines_of l.text

abbrev pub decreases-loop-line : goal.decreases-loop-line
decreases-loop-line l = length l.rest
