use Rattle.std.proofs.Common.{◌≡◌, ◌∷◌, length}
use Rattle.ti_source.specs.Layout.{lines_of}
use Rattle.ti_sources.specs.Joins.{none_continues}
use Rattle.ti_sources.proofs.unjoined.none_continues.Given as goal

-- the lines so far decide nothing
abbrev pub invariant-loop-next : goal.invariant-loop-next
invariant-loop-next l = none_continues (l.line ∷ lines_of l.rest) ≡ none_continues (l.first ∷ lines_of l.behind)

abbrev pub decreases-loop-next : goal.decreases-loop-next
decreases-loop-next l = length l.rest
