-- The last change so far, and then those that are left.
use Rattle.std.proofs.Common.{◌≡◌, drop}
use Rattle.ti_words.specs.Seen.{last_of}
use Rattle.ti_words.proofs.changes.last_of.Given as goal

abbrev pub invariant-loop-change : goal.invariant-loop-change
invariant-loop-change l = last_of l.last (drop l.change-index l.others) ≡ last_of l.fn.first l.others
