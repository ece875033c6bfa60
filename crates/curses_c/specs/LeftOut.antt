-- The strings that a session goes without, as a text for programs.
use Rattle.std.specs.Prelude.{ℕ, List, [], ◌∷◌, ◌++◌}
use Rattle.std.specs.List.{flat_map}
use Rattle.ti_caps.specs.Table.{name_at}
use Rattle.ti_verdicts.specs.Refusals.{cause_name}
use Rattle.ti_without.specs.declared.left_out.LeftOut.{LeftOut}

-- a line: the capability that is left out, the one at fault, and the cause
abbrev pub left_line : LeftOut → List ℕ
left_line l = name_at l.cap ++ 32 ∷ (name_at l.at_fault ++ 32 ∷ (cause_name l.cause ++ 10 ∷ []))

abbrev pub left_text : List LeftOut → List ℕ
left_text left = flat_map left_line left
