use Rattle.std.proofs.Common.{All, ◌≤◌}
use Rattle.ti_blames.specs.Stretches.{IsWithin}
use Rattle.ti_blames.proofs.codes.codes.Given as goal

-- the codes so far are within the string, and the next one begins here or before
abbrev pub invariant-loop-last : goal.invariant-loop-last
invariant-loop-last l = All (IsWithin l.string) l.codes.items × (l.from ≤ l.last)
