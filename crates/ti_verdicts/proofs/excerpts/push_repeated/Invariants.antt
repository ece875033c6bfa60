use Rattle.std.proofs.Common.{◌≡◌, ◌++◌, replicate}
use Rattle.ti_verdicts.proofs.excerpts.push_repeated.Given as goal

-- the byte stands behind the text, as often as the loop has run
abbrev pub invariant-loop : goal.invariant-loop
invariant-loop l = l.text.items ≡ l.initial.text.items ++ replicate l.counter l.byte
