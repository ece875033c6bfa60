use Rattle.std.proofs.Common.{◌≡◌, ◌<◌, ℕ, true}
use Rattle.vt_term.specs.Screen.{Charset}
use Rattle.ti_conforms.specs.Charsets.{can_have}
use Rattle.ti_conforms.specs.Closures.{Leaves, designated_all, has, charset_number}
use Rattle.ti_conforms.proofs.closures.Charsets.left_by.Given as goal

abbrev pub invariant-loop-number : goal.invariant-loop-number
invariant-loop-number l = record {
  sound : (d : Charset) → has l.left d ≡ true → Leaves l.reach l.changes d;
  complete : (k : ℕ) → k < l.number → (c : Charset) → charset_number c ≡ k → can_have l.reach c ≡ true → has l.left (designated_all l.changes c) ≡ true;
}
