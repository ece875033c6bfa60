-- The findings about an entry, and which of its values may change for them. A finding is known by its capability and
-- its cause.
use Rattle.std.specs.Prelude.{ℕ, Bool, true, false, List, [], ◌∷◌, ◌==◌, ◌&&◌, ◌||◌, not}
use Rattle.std.specs.List.{list_all, list_any}
use Rattle.ti_steps.specs.declared.advice.Finding.{Finding}
use Rattle.ti_steps.specs.declared.advice.Remedy.{Remedy}
use Rattle.ti_steps.specs.declared.advice.Weight.{Weight}
use Rattle.ti_steps.specs.declared.advice.Weight.TheVariants.{Certain, Shown, Doubtful, Lent}

-- both are about one capability for one cause
abbrev pub is_same_fault : Finding → Finding → Bool
is_same_fault one other = one.cap == other.cap && one.cause == other.cause

-- an entry of which this is found has that fault
abbrev pub has_fault : List Finding → Finding → Bool
has_fault findings one = list_any (is_same_fault one) findings

-- each fault of the new findings is one of the old ones
abbrev pub is_no_worse : List Finding → List Finding → Bool
is_no_worse old new = list_all (has_fault old) new

abbrev pub is_lent : Weight → Bool
is_lent Certain = false
is_lent Shown = false
is_lent Doubtful = false
is_lent Lent = true

-- nothing is found that counts
abbrev pub is_whole : List Finding → Bool
is_whole findings = list_all (λ one. is_lent one.weight) findings

-- Whether a value may change for a finding of this weight, in an entry that is whole afterwards or not: a fault that
-- is certain may be mended in any entry, one that T alone shows only where nothing else is left.
abbrev pub may_change : Weight → Bool → Bool
may_change Certain whole = true
may_change Shown whole = whole
may_change Doubtful whole = whole
may_change Lent whole = false

-- this finding of an entry lets a value of that entry change for the fault
abbrev pub permits : Bool → Finding → Finding → Bool
permits whole fault own = is_same_fault fault own && may_change own.weight whole

abbrev pub is_permitted : List Finding → Bool → Finding → Bool
is_permitted findings whole fault = list_any (permits whole fault) findings

-- the remedy's string is for the capability at fault, and for no other one that is mended beside it
abbrev pub is_direct : Remedy → Bool
is_direct one = one.fault.cap == one.change.cap

-- An entry may change by the remedy. For a fault of another capability it may only where it is whole afterwards.
abbrev pub allows : List Finding → Bool → Remedy → Bool
allows findings whole one = is_permitted findings whole one.fault && (is_direct one || whole)

-- the remedy gives this capability a string, and the entry may change by it
abbrev pub explains : List Finding → Bool → ℕ → Remedy → Bool
explains findings whole cap one = one.change.cap == cap && allows findings whole one

abbrev pub is_explained : List Finding → Bool → ℕ → List Remedy → Bool
is_explained findings whole cap taken = list_any (explains findings whole cap) taken

-- ---- whether a remedy is of use to its own entry

abbrev pub is_none : List Finding → Bool
is_none [] = true
is_none (first ∷ others) = false

-- something is found about the capability
abbrev pub is_found : ℕ → List Finding → Bool
is_found cap findings = list_any (λ one. one.cap == cap) findings

abbrev pub is_sure : Weight → Bool
is_sure Certain = true
is_sure Shown = false
is_sure Doubtful = false
is_sure Lent = false

-- this finding is that fault, for certain
abbrev pub is_certain : Finding → Finding → Bool
is_certain fault own = is_same_fault fault own && is_sure own.weight

-- one of the findings is that fault, for certain
abbrev pub was_certain : List Finding → Finding → Bool
was_certain findings fault = list_any (is_certain fault) findings

-- the fault was certain, and nothing is found about its capability any more
abbrev pub is_mended : List Finding → List Finding → Finding → Bool
is_mended old new fault = was_certain old fault && not (is_found fault.cap new)

-- The entry had the fault; then nothing is found about it any more, or that certain fault is mended directly.
abbrev pub is_earned : List Finding → List Finding → Remedy → Bool
is_earned old new one = has_fault old one.fault && (is_none new || (is_direct one && is_mended old new one.fault))
