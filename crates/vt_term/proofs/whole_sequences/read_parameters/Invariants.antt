-- The bytes visited so far are parameters, and their numbers are read.
use Rattle.std.proofs.Common.{◌≡◌, ◌<◌, ◌++◌, [], ◌∷◌, true, length, take}
use Rattle.std.specs.List.{list_all}
use Rattle.vt_term.specs.Parameters.{numbers, is_numeral}
use Rattle.vt_term.proofs.whole_sequences.read_parameters.Given as goal

abbrev pub invariant-loop-at : goal.invariant-loop-at
invariant-loop-at l = record {
  len : length l.numbers ≡ length l.fn.numbers;
  within : l.count < length l.numbers;
  numeral : list_all is_numeral (take l.at l.bytes) ≡ true;
  read : take l.count l.numbers ++ l.number ∷ [] ≡ numbers (take l.at l.bytes);
}
