use Rattle.std.proofs.Common.{◌≡◌, ◌++◌}
use Rattle.ti_source.specs.Prints.{ranks_text}
use Rattle.ti_source.proofs.printer.push_kind.Given as goal

abbrev pub invariant-loop-rank : goal.invariant-loop-rank
invariant-loop-rank l = l.text.items ≡ l.fn.text.items ++ ranks_text l.entry l.kind l.rank
