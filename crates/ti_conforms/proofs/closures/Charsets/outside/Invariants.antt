use Rattle.std.proofs.Common.{◌≡◌, ◌<◌, ℕ, true}
use Rattle.vt_term.specs.Screen.{Charset}
use Rattle.ti_conforms.specs.Closures.{StaysFrom, has, charset_number}
use Rattle.ti_conforms.proofs.closures.Charsets.outside.Given as goal

abbrev pub invariant-loop-number : goal.invariant-loop-number
invariant-loop-number l = (k : ℕ) → k < l.number → (c : Charset) → charset_number c ≡ k → has l.self c ≡ true → StaysFrom l.self l.changes c
