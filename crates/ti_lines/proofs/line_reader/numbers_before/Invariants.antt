use Rattle.std.proofs.Common.{◌≡◌, ◌-◌, length, []}
use Rattle.ti_lines.specs.RowLines as spec
use Rattle.ti_lines.proofs.line_reader.numbers_before.Given as goal

-- reading the rest from here gives the result of the whole
abbrev pub invariant-loop : goal.invariant-loop
invariant-loop l = record {
  pushed : length l.numbers.items ≡ l.counter;
  same : spec.numbers_before (l.count - l.counter) l.numbers.items l.rest ≡ spec.numbers_before l.count [] l.fn.text;
}
