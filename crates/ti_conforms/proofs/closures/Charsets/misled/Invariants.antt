use Rattle.std.proofs.Common.{◌≡◌, ◌<◌, ℕ, true}
use Rattle.vt_term.specs.Screen.{Charset, is_graphic}
use Rattle.vt_effects.specs.Effect.{designated}
use Rattle.ti_conforms.specs.Closures.{has, charset_number}
use Rattle.ti_conforms.proofs.closures.Charsets.misled.Given as goal

abbrev pub invariant-loop-number : goal.invariant-loop-number
invariant-loop-number l = (k : ℕ) → k < l.number → (c : Charset) → charset_number c ≡ k → has l.self c ≡ true → is_graphic (designated l.change c) ≡ l.graphic
