use Rattle.std.proofs.Common.{◌≡◌, length}
use Rattle.ti_source.specs.Layout.{cut_of}
use Rattle.ti_sources.proofs.unjoined.last_part.Given as goal

-- what is left has the same last part
abbrev pub invariant-loop-behind : goal.invariant-loop-behind
invariant-loop-behind l = (cut_of l.rest).last ≡ (cut_of l.line).last

abbrev pub decreases-loop-behind : goal.decreases-loop-behind
decreases-loop-behind l = length l.rest
