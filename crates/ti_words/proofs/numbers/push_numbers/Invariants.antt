use Rattle.std.proofs.Common.{◌≡◌, ◌++◌, drop}
use Rattle.ti_words.specs.Numbers.{numbers_text}
use Rattle.ti_words.proofs.numbers.push_numbers.Given as goal

-- the words have the numbers so far, and become the whole text with those left
abbrev pub invariant-loop-number : goal.invariant-loop-number
invariant-loop-number l = l.words.items ++ numbers_text (drop l.number-index l.numbers) ≡ l.initial.words.items ++ numbers_text l.numbers
