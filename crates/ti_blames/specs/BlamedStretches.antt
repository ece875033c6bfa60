-- Stretches of a string that a call may find.
use Rattle.std.specs.Prelude.{ℕ, List, IfSome, Option}
use Rattle.ti_blames.specs.Stretches.{IsWithin}
use Rattle.ti_blames.specs.declared.stretches.Stretch.{Stretch}

-- what is found, if anything, is a stretch of the string
abbrev pub IsWithinIf : List ℕ → Option Stretch → Type 0
IsWithinIf string found = IfSome found (IsWithin string)
