use Rattle.std.proofs.Common.{◌≡◌, drop}
use Rattle.ti_conforms.specs.Charsets.{joined, reach_of}
use Rattle.ti_conforms.proofs.reach.Reach.learn_all.Given as goal

abbrev pub invariant-loop-token : goal.invariant-loop-token
invariant-loop-token l = joined l.self (reach_of (drop l.token-index l.tokens)) ≡ joined l.initial.self (reach_of l.tokens)
