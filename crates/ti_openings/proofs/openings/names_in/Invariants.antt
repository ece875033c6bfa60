use Rattle.std.proofs.Common.{◌≡◌, take}
use Rattle.ti_openings.specs.Openings.{names_of, texts_of}
use Rattle.ti_openings.proofs.openings.names_in.Given as goal

-- the capabilities before this one have their names
abbrev pub invariant-loop-one : goal.invariant-loop-one
invariant-loop-one l = texts_of l.names.items ≡ names_of (take l.one-index l.left)
