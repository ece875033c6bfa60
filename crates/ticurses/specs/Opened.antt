-- The bytes that are left of an opened file or of standard input.
use Rattle.std.specs.Prelude.{ℕ, List, Option}
use Rattle.ticurses.specs.declared.stored.Opened.{Opened}
use Rattle.ticurses.specs.declared.stored.Opened.TheVariants.{File, Input}

-- what the one that was opened has left
abbrev pub left_of : {F I : Type 0} → (F → Option (List ℕ)) → (I → Option (List ℕ)) → Opened F I → Option (List ℕ)
left_of of_file of_input (File file) = of_file file
left_of of_file of_input (Input input) = of_input input
