-- The places that an erasure makes blank, by the cursor's place (ECMA-48 8.3.38 ECH, 8.3.39 ED, 8.3.41 EL).
use Rattle.std.specs.Prelude.{ℕ, ◌+◌, ◌==◌, ◌&&◌, ◌||◌, nat_le, nat_lt, Bool, if◌then◌else◌}
use Rattle.ti_rows.specs.declared.rows.Row.{Row}
use Rattle.ti_rows.specs.declared.rows.Row.TheVariants.{El, El1, Ed, Ech}
use Rattle.cur_steps.specs.Inks.{blank_ink}
use Rattle.cur_steps.specs.declared.inks.Ink.{Ink}
pub use Rattle.cur_moves.specs.declared.erasures.ErasedPart.{ErasedPart}
pub use Rattle.cur_moves.specs.declared.erasures.ErasedPart.TheVariants.{Head, Part, Tail, Rest}

-- the row whose line erases this part
abbrev pub erasure_row : ErasedPart → Row
erasure_row Head = El1
erasure_row (Part n) = Ech n
erasure_row Tail = El
erasure_row Rest = Ed

-- the places that become blank if the cursor is at (r, c)
abbrev pub is_erased : ErasedPart → ℕ → ℕ → ℕ → ℕ → Bool
is_erased Head r c i j = (i == r) && nat_le j c
is_erased (Part n) r c i j = (i == r) && (nat_le c j && nat_lt j (c + n))
is_erased Tail r c i j = (i == r) && nat_le c j
is_erased Rest r c i j = nat_lt r i || ((i == r) && nat_le c j)

abbrev pub erased : ErasedPart → ℕ → ℕ → (ℕ → ℕ → Ink) → ℕ → ℕ → Ink
erased e r c g i j = if is_erased e r c i j then blank_ink else g i j
