-- The order of refusals: if several apply, the one of the lowest rank is reported.
use Rattle.std.specs.Prelude.{◌≡◌, ℕ, ◌+◌, ◌&&◌, nat_le, List, [], ◌∷◌, Bool, true, Result, Ok, Err, if◌then◌else◌}
use Rattle.cur_drawing.specs.declared.refusals.Refusal.{Refusal}
use Rattle.cur_drawing.specs.declared.refusals.Refusal.TheVariants.{NoWindow, OutOfWindow, OutOfScreen, HasChildren}
use Rattle.cur_drawing.specs.declared.refusals.Refusal.TheVariants.{IsSub, PadKind, NoScroll, BadRegion, NumberUsed}
use Rattle.cur_drawing.specs.declared.refusals.Refusal.TheVariants.{BadCell, Full, NoMemory, IsScreen, NoCap, IsLost}
use Rattle.cur_drawing.specs.declared.refusals.Refusal.TheVariants.{BadPair}

-- numbers first, then the kind of window, then the characters to write, then places and sizes, and finally a lack of
-- the terminal or of memory
abbrev pub rank : Refusal → ℕ
rank = elim [
  | Full ↦ 0
  | NumberUsed ↦ 1
  | NoWindow ↦ 2
  | PadKind ↦ 3
  | IsScreen ↦ 4
  | HasChildren ↦ 5
  | IsSub ↦ 6
  | BadCell ↦ 7
  | BadPair ↦ 8
  | BadRegion ↦ 9
  | OutOfScreen ↦ 10
  | OutOfWindow ↦ 11
  | NoScroll ↦ 12
  | NoCap ↦ 13
  | IsLost ↦ 14
  | NoMemory ↦ 15
]

-- a refusal, and whether it applies
abbrev pub Condition : Type 0
Condition = Refusal × Bool

abbrev pub first_refusal : List (Refusal × Bool) → Result (Unit {0}) Refusal
first_refusal [] = Ok tt
first_refusal ((e, b) ∷ cs) = if b then Err e else first_refusal cs

abbrev pub ranks_rise_from : ℕ → List (Refusal × Bool) → Bool
ranks_rise_from n [] = true
ranks_rise_from n ((e, b) ∷ cs) = nat_le n (rank e) && ranks_rise_from (rank e + 1) cs

-- the answer is the refusal of the lowest rank that applies, or Ok if none applies
pub record IsFirstOf (conditions : List (Refusal × Bool)) (answer : Result (Unit {0}) Refusal) : Type 0 where
  pub order : ranks_rise_from 0 conditions ≡ true
  pub first : answer ≡ first_refusal conditions
