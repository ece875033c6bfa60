use Rattle.std.proofs.Common.{◌≡◌, drop}
use Rattle.ti_conforms.specs.Closures.{designated_all}
use Rattle.ti_conforms.proofs.closures.designated_all.Given as goal

abbrev pub invariant-loop-change : goal.invariant-loop-change
invariant-loop-change l = designated_all (drop l.change-index l.changes) l.charset ≡ designated_all l.changes l.initial.charset
