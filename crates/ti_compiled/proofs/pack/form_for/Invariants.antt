use Rattle.std.proofs.Common.{◌≡◌, ◌<◌, ℕ, false, None, get_or}
use Rattle.ti_compiled.specs.Written.{numbers_of, is_wide}
use Rattle.ti_compiled.proofs.pack.form_for.Given as goal

abbrev pub invariant-loop-position : goal.invariant-loop-position
invariant-loop-position l = (k : ℕ) → k < l.position → is_wide (get_or (numbers_of l.entry) k None) ≡ false
