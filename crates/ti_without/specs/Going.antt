-- (Serves the code alone.) A round, step by step.
use Rattle.std.specs.Prelude.{ℕ, zero, suc, ◌≡◌, ◌++◌, true, false, All, List, [], ◌∷◌, Option, Some, None, is_some}
use Rattle.ti_caps.specs.Entry.{Content, string_at, with_value}
use Rattle.ti_caps.specs.declared.value.Value.{Value}
use Rattle.ti_checker.specs.declared.causes.No.{No}
use Rattle.ti_without.specs.Less.{caps_of, goes_with, less}
use Rattle.ti_without.specs.Rounds.{counts, IsDue, IsRound, IsWanted}
use Rattle.ti_without.specs.declared.left_out.LeftOut.{LeftOut}
use Rattle.ti_without.specs.declared.rounds.Smaller.{Smaller}

-- how many capabilities an entry has
abbrev pub count : List (Option Value) → ℕ
count [] = zero
count (Some v ∷ values) = suc (count values)
count (None ∷ values) = count values

abbrev pub present : Content → ℕ
present entry = count entry.values

abbrev pub left_for : ℕ → No → LeftOut
left_for cap fault = record { cap = cap; at_fault = fault.cap; cause = fault.cause }

-- the capability is left out for this fault, if the entry has a string of it
pub data LeavesOut (s : Smaller) (cap : ℕ) (fault : No) (t : Smaller) : Type 0 where
  Had : is_some (string_at s.entry cap) ≡ true → t.entry ≡ with_value s.entry cap None
      → t.left.items ≡ s.left.items ++ left_for cap fault ∷ [] → LeavesOut s cap fault t
  Lacked : is_some (string_at s.entry cap) ≡ false → t ≡ s → LeavesOut s cap fault t

-- the entry has the string, and it goes for this fault
pub record IsDueTo (entry : Content) (fault : No) (l : LeftOut) : Type 0 where
  pub there : is_some (string_at entry l.cap) ≡ true
  pub counts : counts fault ≡ true
  pub cap_is : l.at_fault ≡ fault.cap
  pub cause_is : l.cause ≡ fault.cause
  pub goes : goes_with fault.cap l.cap ≡ true

-- what goes for this fault is left out
pub record LeavesFor (s : Smaller) (fault : No) (t : Smaller) : Type 0 where
  pub gone : List LeftOut
  pub left_is : t.left.items ≡ s.left.items ++ gone
  pub entry_is : t.entry ≡ less s.entry (caps_of gone)
  pub due : All (IsDueTo s.entry fault) gone

-- what goes for these faults is left out, and all of it
pub record LeavesAll (s : Smaller) (nos : List No) (t : Smaller) : Type 0 where
  pub gone : List LeftOut
  pub left_is : t.left.items ≡ s.left.items ++ gone
  pub entry_is : t.entry ≡ less s.entry (caps_of gone)
  pub due : All (IsDue s.entry nos) gone
  pub all : (cap : ℕ) → IsWanted nos cap → string_at t.entry cap ≡ None

-- the capability, and the other one of `smcup` and `rmcup`, have no string
abbrev pub LacksFor : No → Smaller → Type 0
LacksFor fault t = (cap : ℕ) → counts fault ≡ true → goes_with fault.cap cap ≡ true → string_at t.entry cap ≡ None

-- one round more
pub record IsFurther (rows cols : ℕ) (s t : Smaller) : Type 0 where
  pub gone : List LeftOut
  pub round : IsRound s.entry rows cols gone
  pub left_is : t.left.items ≡ s.left.items ++ gone
  pub entry_is : t.entry ≡ less s.entry (caps_of gone)
