-- A string judged in place of an entry's own.
use Rattle.std.proofs.Common.{◌≡◌, ◌⊎◌, inl, inr, ◌<◌, ◌+◌, ℕ, zero, suc, Bool, true, false, ◌&&◌, List, [], ◌∷◌, ◌++◌, Option, Some, refl, sym, subst, ap, ◌∙◌, eq-eqb, arith}
use Rattle.std.proofs.Math.Nat.{eq-or-lt_of_le}
use Rattle.std.proofs.lemmas.Bool.{false≢true}
use Rattle.std.proofs.lemmas.List.Folds.{list_all-append}
use Rattle.std.specs.List.{list_all}
use Rattle.ti_caps.specs.Entry.{Content}
use Rattle.ti_rows.specs.declared.rows.Row.{Row}
use Rattle.ti_rows.specs.Looks.{learned}
use Rattle.ti_rows.specs.Names.{cap_of, order, string_in_order, capabilities}
use Rattle.ti_rows.proofs.NameFacts.{orders_small}
use Rattle.ti_conforms.specs.Conforms.{Conforms}
use Rattle.ti_conforms.specs.Entries.{is_checked, string_of}
use Rattle.ti_conforms.specs.Sends.{Sends}
use Rattle.ti_conforms.proofs.Matches.{same_checked}
use Rattle.ti_checker.specs.First.{CapStands}
use Rattle.ti_checker.specs.declared.causes.No.{No}
use Rattle.ti_checker.proofs.Walks.{same_string}
use Rattle.ti_faults.specs.AllFaults.{AreAllFaults, NoFault, Faulty, or_one}
use Rattle.ti_faults.specs.RowFaults.{IsCapFault, OfCap, Stands, Fails, OfCaps}
use Rattle.ti_faults.specs.Standard.{where_so}
use Rattle.ti_faults.specs.declared.mended.Mended.{Mended}
use Rattle.ti_faults.specs.Remedies.{SendsAllRight, SuggestionsAreRight, may_stay, IsAccepted, IsRejected, IsIfAccepted, Accepted, Rejected}

-- ---- a capability that no fault names

both_left : (a b : Bool) → (a && b) ≡ true → a ≡ true
both_left true b h = refl
both_left false b h = absurd (false≢true h)

both_right : (a b : Bool) → (a && b) ≡ true → b ≡ true
both_right true b h = h
both_right false b h = absurd (false≢true h)

front_all : (p : No → Bool) (front own : List No) → list_all p (front ++ own) ≡ true → list_all p front ≡ true
front_all p front own h = both_left (list_all p front) (list_all p own) (sym (list_all-append p front own) ∙ h)

own_all : (p : No → Bool) (front own : List No) → list_all p (front ++ own) ≡ true → list_all p own ≡ true
own_all p front own h = both_right (list_all p front) (list_all p own) (sym (list_all-append p front own) ∙ h)

of_cap : (entry : Content) (rows cols place : ℕ) (own : List No) (p : No → Bool) → ((fault : No) → IsCapFault entry rows cols place fault → p fault ≡ false) → list_all p own ≡ true → OfCap entry rows cols place own → CapStands entry rows cols place
of_cap entry rows cols place own p out all (Stands e h) = h
of_cap entry rows cols place own p out all (Fails refusal e claims h) =
    let one : (p refusal && true) ≡ true = subst (λ (l : List No). list_all p l ≡ true) e all in
    absurd (false≢true (sym (out refusal h) ∙ both_left (p refusal) true one))

pub cap_stands : (entry : Content) (rows cols n place : ℕ) (nos : List No) (p : No → Bool) → place < n → ((fault : No) → IsCapFault entry rows cols place fault → p fault ≡ false) → list_all p nos ≡ true → OfCaps entry rows cols n nos → CapStands entry rows cols place
unfolding OfCaps
cap_stands entry rows cols zero place nos p lt out all h = absurd (omega (arith, lt))
cap_stands entry rows cols (suc n) place nos p lt out all h = by_place (eq-or-lt_of_le (omega (arith, lt))) (cap_stands entry rows cols n)
  where
    there : list_all p (h.0 ++ h.1) ≡ true
    there = subst (λ (l : List No). list_all p l ≡ true) h.2 all

    by_place : (place ≡ n) ⊎ (place < n) → ((place : ℕ) (nos : List No) (p : No → Bool) → place < n → ((fault : No) → IsCapFault entry rows cols place fault → p fault ≡ false) → list_all p nos ≡ true → OfCaps entry rows cols n nos → CapStands entry rows cols place) → CapStands entry rows cols place
    by_place (inl same) earlier = of_cap entry rows cols place h.1 p out (own_all p h.0 h.1 there) (subst (λ (m : ℕ). OfCap entry rows cols m h.1) (sym same) h.4)
    by_place (inr less) earlier = earlier place h.0 p less out (front_all p h.0 h.1 there) h.3

-- a property of all listed faults holds of those of the three lists
lists_all : (refusal : No) (p : No → Bool) (found : List No) → list_all p (or_one found refusal) ≡ true → list_all p found ≡ true
lists_all refusal p [] h = refl
lists_all refusal p (first ∷ rest) h = h

-- ---- each row sends the right bytes

same_Some : (a b : List ℕ) → Some a ≡ Some b → a ≡ b
same_Some a b e = cc

conforming : (entry : Content) (rows cols : ℕ) (row : Row) (string : List ℕ) → Conforms entry rows cols → is_checked entry row ≡ true → string_of entry row ≡ Some string → SendsAllRight rows cols string (order row)
conforming entry rows cols row string h checked there other range alike =
    let a = h.sends other range in
    let s = a.checked (same_checked entry other row alike ∙ checked) in
    let is : s.string ≡ string = same_Some s.string string (sym s.there ∙ (same_string entry other row alike ∙ there)) in (
      h.table.looks,
      record {
        bytes = s.sends.bytes;
        sends = subst (λ (x : List ℕ). Sends x other s.sends.bytes) is s.sends.sends;
        right = h.right other s.sends.bytes s.sends.line_has;
      },
    )

standing : (entry : Content) (rows cols : ℕ) (row : Row) (string : List ℕ) → CapStands entry rows cols (order row) → is_checked entry row ≡ true → string_of entry row ≡ Some string → SendsAllRight rows cols string (order row)
standing entry rows cols row string h checked there other range alike =
    let a = h other range alike (same_checked entry other row alike ∙ checked) string (same_string entry other row alike ∙ there) in
    (learned other a.effect a.looks, record { bytes = a.bytes; sends = a.is.sends; right = a.right })

pub all_right : (entry : Content) (rows cols : ℕ) (row : Row) (string : List ℕ) (faults : List No) (p : No → Bool) → ((fault : No) → fault.cap ≡ cap_of row → p fault ≡ false) → is_checked entry row ≡ true → string_of entry row ≡ Some string
    → list_all p faults ≡ true → AreAllFaults entry rows cols faults → SendsAllRight rows cols string (order row)
all_right entry rows cols row string faults p out checked there all (NoFault none h) = conforming entry rows cols row string h.conforms checked there
all_right entry rows cols row string faults p out checked there all (Faulty f) =
    let lists : list_all p ((f.whole ++ f.single) ++ f.together) ≡ true = lists_all f.refusal p ((f.whole ++ f.single) ++ f.together) (subst (λ (l : List No). list_all p l ≡ true) f.are all) in
    let single : list_all p f.single ≡ true = own_all p f.whole f.single (front_all p (f.whole ++ f.single) f.together lists) in
    let of_row : (fault : No) → IsCapFault entry rows cols (order row) fault → p fault ≡ false =
    λ fault k. out fault (k.cap_is ∙ ap (λ (n : ℕ). 83 + string_in_order n) k.of_cap) in
    standing entry rows cols row string (cap_stands entry rows cols capabilities (order row) f.single p (orders_small row) of_row single f.of_single) checked there

-- ---- an accepted string is right

own_out : (row : Row) (fault : No) → fault.cap ≡ cap_of row → may_stay row fault ≡ false
own_out row fault same = rw (eq-eqb fault.cap (cap_of row) same) refl

pub accepted_right : SuggestionsAreRight
accepted_right entry rows cols m row string all ok = all_right m.entry rows cols row string m.left.items (may_stay row) (own_out row) ok.checked ok.there ok.may_stay all

-- ---- the string, if it is accepted

pub if_accepted : (entry : Content) (m : Mended) (row : Row) (string : List ℕ) (answer : Bool) (given found : Option (List ℕ)) → given ≡ Some string → found ≡ where_so answer string
    → (answer ≡ true → IsAccepted entry m row string) → (answer ≡ false → IsRejected entry m row string) → IsIfAccepted entry m row given found
if_accepted entry m row string true given found is e right wrong = Accepted string given found is e (right refl)
if_accepted entry m row string false given found is e right wrong = Rejected string given found is e (wrong refl)
