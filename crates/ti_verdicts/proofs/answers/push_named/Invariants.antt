use Rattle.std.proofs.Common.{◌≡◌, ◌++◌, take, flat_map}
use Rattle.ti_files.specs.Words.{texts_of}
use Rattle.ti_verdicts.specs.Counts.{answer_part}
use Rattle.ti_verdicts.proofs.answers.push_named.Given as goal

abbrev pub invariant-loop-name : goal.invariant-loop-name
invariant-loop-name l = l.line.items ≡ l.initial.line.items ++ flat_map (answer_part l.answers) (texts_of (take l.name-index l.names))
