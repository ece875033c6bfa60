-- (Serves the code alone.) Sums that fit the numbers of a move.
use Rattle.std.specs.Prelude.{ℕ, ◌+◌, ◌≤◌}
use Rattle.vt_effects.specs.declared.effects.Move.{Move}
use Rattle.vt_effects.specs.declared.effects.Move.TheVariants as moves

abbrev pub BackFits : Move → ℕ → Type 0
BackFits (moves.Back k) n = k + n ≤ 65535
BackFits _ n = Unit {0}

abbrev pub ForwardFits : Move → ℕ → Type 0
ForwardFits (moves.To k) n = k + n ≤ 65535
ForwardFits (moves.Forward k) n = k + n ≤ 65535
ForwardFits _ n = Unit {0}
