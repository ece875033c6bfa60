use Rattle.std.proofs.Common.{drop}
use Rattle.vt_effects.specs.declared.effects.Sets.{Sets}
use Rattle.ti_conforms.specs.Charsets.{IsAmong}
use Rattle.ti_conforms.specs.Closures.{StaysFrom}
use Rattle.ti_conforms.proofs.closures.Charsets.outside_from.Given as goal

abbrev pub invariant-loop-change : goal.invariant-loop-change
invariant-loop-change l = record {
  stays : StaysFrom l.self (drop l.change-index l.changes) l.charset → StaysFrom l.self l.changes l.charset;
  among : (x : Sets) → IsAmong (drop l.change-index l.changes) x → IsAmong l.changes x;
}
