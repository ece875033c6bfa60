-- The memory that a handle owns.
use Rattle.std.specs.Prelude.{ℕ, ◌==◌, ◌≡◌, Option, Some, None, is_some}
use base.Fml.{Fml, ftrue}
use mir.Syntax.{Ty}
use denote.RawPtr.{Ptr}
use denote.RattleType.{RattleType}
use Rattle.std.specs.Box.Ownership.{box_owns}
use Rattle.std.specs.contracts.impls.GlobalAllocator.TheImpl.{ghosts}

-- the right to free a block of the program's allocator, which has no state of its own
abbrev pub chunk : Ty → Ptr → Fml
chunk = ghosts.dealloc_token (record { memory = record { seal = tt } })

-- an open handle owns the block at its pointer, any other nothing
abbrev pub held_at : (R : RattleType) → Ptr → Option R.Denot → Fml
held_at R p (Some v) = box_owns chunk R p v
held_at R p None = ftrue

-- the number that an open handle has; no other handle has it ("tinf" in ASCII)
abbrev pub mark : ℕ
mark = 1953066598

-- the number says whether something is held
abbrev pub IsMarked : {X : Type 0} → ℕ → Option X → Type 0
IsMarked state held = (state == mark) ≡ is_some held
