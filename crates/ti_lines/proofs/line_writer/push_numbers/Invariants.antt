use Rattle.std.proofs.Common.{◌≡◌, ◌++◌, drop}
use Rattle.ti_lines.specs.RowLines as spec
use Rattle.ti_lines.proofs.line_writer.push_numbers.Given as goal

-- the text has the numbers so far, and with the remaining ones it is the whole
abbrev pub invariant-loop-number : goal.invariant-loop-number
invariant-loop-number l = l.text.items ++ spec.numbers_text (drop l.number-index l.numbers) ≡ l.initial.text.items ++ spec.numbers_text l.numbers
