use Rattle.std.proofs.Common.{◌≡◌, length}
use Rattle.std.specs.List.{list_all}
use Rattle.ti_compiled.specs.Layout.{words, is_number}
use Rattle.ti_compiled.proofs.sections.are_words.Given as goal

abbrev pub invariant-loop-rest : goal.invariant-loop-rest
invariant-loop-rest l = list_all (is_number 32768) (words l.rest) ≡ list_all (is_number 32768) (words l.bytes)

abbrev pub decreases-loop-rest : goal.decreases-loop-rest
decreases-loop-rest l = length l.rest
