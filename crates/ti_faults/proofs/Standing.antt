-- The capabilities that no fault of a single row names are those each row of which stands.
use Rattle.std.proofs.Common.{◌≡◌, ◌≢◌, ◌⊎◌, ℕ, zero, suc, ◌+◌, true, false, ◌==◌, ◌||◌, not, List, [], ◌∷◌, inl, inr, refl, sym, ap, ◌∙◌, eq-eqb}
use Rattle.std.proofs.lemmas.Bool.{false≢true, true≢false, cases_Bool, eqb-true, or_cases, or_parts}
use Rattle.std.proofs.lemmas.List.Folds.{list_any-append}
use Rattle.std.specs.List.{list_all}
use Rattle.ti_caps.specs.Entry.{Content}
use Rattle.ti_rows.specs.declared.rows.Row.{Row}
use Rattle.ti_rows.specs.Names.{cap_of, order, string_in_order, capabilities}
use Rattle.ti_rows.proofs.NameFacts.{orders_small}
use Rattle.ti_checker.specs.First.{CapStands}
use Rattle.ti_checker.specs.Kept.{IsStanding, names, unnamed}
use Rattle.ti_checker.specs.declared.causes.Cause.TheVariants.{NoMemory}
use Rattle.ti_checker.specs.declared.causes.No.{No}
use Rattle.ti_checker.proofs.OnlyMemory.{only_memory}
use Rattle.ti_faults.specs.RowFaults.{IsCapFault, OfCap, Stands, Fails, OfCaps}
use Rattle.ti_faults.proofs.Judged.{cap_stands}
use Rattle.ti_faults.proofs.Places.{same_place}

-- ---- a capability that no fault names stands

all_other : (cap : ℕ) (nos : List No) → names nos cap ≡ false → list_all (λ fault. not (fault.cap == cap)) nos ≡ true
all_other cap [] h = refl
all_other cap (fault ∷ rest) h =
    let both = or_parts (fault.cap == cap) (names rest cap) h in
    rw both.0 (all_other cap rest both.1)

none_named : (nos : List No) (place : ℕ) → unnamed nos place ≡ true → names nos (83 + string_in_order place) ≡ false
none_named nos place h = elim (cases_Bool (names nos (83 + string_in_order place))) [
  | inl e ↦ absurd (false≢true (sym (ap not e) ∙ h))
  | inr e ↦ e
]

-- ---- one that a fault names doesn't

record FaultOf (entry : Content) (rows cols cap : ℕ) : Type 0 where
  place : ℕ
  refusal : No
  claims : refusal.cause ≢ NoMemory
  fault : IsCapFault entry rows cols place refusal
  cap_is : refusal.cap ≡ cap

own_fault : (entry : Content) (rows cols place cap : ℕ) (own : List No) → OfCap entry rows cols place own → names own cap ≡ true → FaultOf entry rows cols cap
own_fault entry rows cols place cap own (Stands none h) named = absurd (false≢true (ap (λ (l : List No). names l cap) (sym none) ∙ named))
own_fault entry rows cols place cap own (Fails refusal one claims fault) named =
    let own_named : names (refusal ∷ []) cap ≡ true = ap (λ (l : List No). names l cap) (sym one) ∙ named in
    record { place = place; refusal = refusal; claims = claims; fault = fault; cap_is = by_parts (or_cases (refusal.cap == cap) false own_named) }
  where
    by_parts : (refusal.cap == cap) ≡ true ⊎ false ≡ true → refusal.cap ≡ cap
    by_parts (inl e) = eqb-true refusal.cap cap e
    by_parts (inr e) = absurd (false≢true e)

fault_of : (entry : Content) (rows cols n cap : ℕ) (nos : List No) → OfCaps entry rows cols n nos → names nos cap ≡ true → FaultOf entry rows cols cap
unfolding OfCaps
fault_of entry rows cols zero cap nos none named = absurd (false≢true (ap (λ (l : List No). names l cap) (sym none) ∙ named))
fault_of entry rows cols (suc n) cap nos h named =
    let there : (names h.0 cap || names h.1 cap) ≡ true = sym (list_any-append (λ (fault : No). fault.cap == cap) h.0 h.1) ∙ (ap (λ (l : List No). names l cap) (sym h.2) ∙ named) in
    by_part (or_cases (names h.0 cap) (names h.1 cap) there) (fault_of entry rows cols n cap h.0 h.3)
  where
    by_part : (names h.0 cap ≡ true) ⊎ (names h.1 cap ≡ true) → (names h.0 cap ≡ true → FaultOf entry rows cols cap) → FaultOf entry rows cols cap
    by_part (inl e) earlier = earlier e
    by_part (inr e) earlier = own_fault entry rows cols n cap h.1 h.4 e

never_stands : (entry : Content) (rows cols : ℕ) (row : Row) → FaultOf entry rows cols (cap_of row) → CapStands entry rows cols (order row) → ⊥
never_stands entry rows cols row h stands =
    let f = h.fault in
    let same : order f.row ≡ order row = same_place f.row row (sym f.cap_is ∙ h.cap_is) in
    h.claims (only_memory rows cols f.fault.string f.row h.refusal.cause (stands f.row f.range same f.checked f.fault.string f.fault.there) f.fault.faulty)

pub standing : (entry : Content) (rows cols : ℕ) (single : List No) → OfCaps entry rows cols capabilities single → IsStanding entry rows cols (unnamed single)
standing entry rows cols single all = record {
  stand = λ row range kept. cap_stands entry rows cols capabilities (order row) single (λ fault. not (fault.cap == cap_of row)) (orders_small row) (out row)
      (all_other (cap_of row) single (none_named single (order row) kept)) all row range refl;
  fail = λ row left stands. never_stands entry rows cols row (fault_of entry rows cols capabilities (cap_of row) single all (named row left)) stands;
}
  where
    out : (row : Row) (fault : No) → IsCapFault entry rows cols (order row) fault → not (fault.cap == cap_of row) ≡ false
    out row fault k = rw (eq-eqb fault.cap (cap_of row) (k.cap_is ∙ ap (λ (n : ℕ). 83 + string_in_order n) k.of_cap)) refl

    named : (row : Row) → unnamed single (order row) ≡ false → names single (cap_of row) ≡ true
    named row left = elim (cases_Bool (names single (cap_of row))) [
      | inl e ↦ e
      | inr e ↦ absurd (true≢false (sym (ap not e) ∙ left))
    ]
