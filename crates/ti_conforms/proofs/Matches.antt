-- The rows of a capability are either all checked or all not.
use Rattle.std.proofs.Common.{◌≡◌, ◌+◌, ◌==◌, ◌&&◌, ℕ, true, false, List, Option, None, Some, if◌then◌else◌, refl, sym, ap, subst, ◌∙◌}
use Rattle.std.specs.Prelude.{is_some, Result, Ok, Err, OnOk, IfErr, option_copied}
use Rattle.std.proofs.Common.{Bor}
use Rattle.std.proofs.lemmas.Bool.{false≢true}
use Rattle.ti_caps.specs.Entry.{Content, string_at}
use Rattle.ti_rows.specs.declared.rows.Row.{Row}
use Rattle.ti_rows.specs.declared.rows.Row.TheVariants.{Setaf}
use Rattle.ti_rows.specs.Names.{order, string_in_order}
use Rattle.ti_conforms.specs.declared.entries.Group.{Group}
use Rattle.ti_conforms.specs.declared.entries.Group.TheVariants.{Colors, Single, Sets, Alone}
use Rattle.ti_conforms.specs.declared.agreement.Disagreement.{Disagreement}
use Rattle.ti_conforms.specs.declared.agreement.Disagreement.TheVariants.{Disagree, Unwanted, NoMemory}
use Rattle.ti_conforms.specs.Agreement.{LineSends, AllSend, IsDisagreement}
use Rattle.ti_conforms.specs.Entries.{group_of, string_of, has_string, meets, is_checked, EntrySends, CapAgrees, IsNotAgreed}

group_at : ℕ → Group
group_at n =
    if n == 34 then Colors else
    (if n == 33 then Colors else
    (if n == 28 then Colors else
    (if n == 40 then Single else
    (if n == 29 then Single else
    (if n == 1 then Single else
    (if n == 18 then Single else
    (if n == 2 then Single else
    (if n == 27 then Single else
    (if n == 39 then Single else
    (if n == 37 then Sets else
    (if n == 31 then Sets else
    Alone)))))))))))

grouped : (row : Row) → group_of row ≡ group_at (order row)
unfolding group_at
grouped (Setaf c) = refl
grouped _ = refl

same_group : (row other : Row) → order row ≡ order other → group_of row ≡ group_of other
same_group row other e = grouped row ∙ (ap group_at e ∙ sym (grouped other))

same_string : (entry : Content) (row other : Row) → order row ≡ order other → string_of entry row ≡ string_of entry other
same_string entry row other e = ap (λ (n : ℕ). string_at entry (83 + string_in_order n)) e

pub same_checked : (entry : Content) (row other : Row) → order row ≡ order other → is_checked entry row ≡ is_checked entry other
same_checked entry row other e =
    ap (λ (s : Option (List ℕ)). is_some s && meets entry (group_of row)) (same_string entry row other e)
    ∙ ap (λ (g : Group). has_string entry other && meets entry g) (same_group row other e)

pub none_wanted : (rows cols : ℕ) (entry : Content) (line_of : Row → Option (List ℕ)) (first : Row) → is_checked entry first ≡ false → ((other : Row) → order other ≡ order first → line_of other ≡ None)
    → CapAgrees rows cols entry line_of (order first)
none_wanted rows cols entry line_of first unchecked none row o range = record {
  checked = λ h. let no : false ≡ true = sym unchecked ∙ (sym (same_checked entry row first o) ∙ h) in absurd (false≢true no);
  unchecked = λ h. none row o;
}

pub all_wanted : (rows cols : ℕ) (entry : Content) (line_of : Row → Option (List ℕ)) (first : Row) (string : List ℕ) → is_checked entry first ≡ true → Some string ≡ string_of entry first → AllSend rows cols string line_of (order first)
    → CapAgrees rows cols entry line_of (order first)
all_wanted rows cols entry line_of first string checked there all row o range = record {
  checked = λ h. record { string = string; there = same_string entry row first o ∙ sym there; sends = all row o range };
  unchecked = λ h. let no : false ≡ true = sym h ∙ (same_checked entry row first o ∙ checked) in absurd (false≢true no);
}

other_string : (string : List ℕ) (entry : Content) (line : Option (List ℕ)) (row first : Row) → order row ≡ order first → Some string ≡ string_of entry first → (LineSends string line row → ⊥) → EntrySends entry line row → ⊥
other_string string entry line row first o there differs s =
    let same : Some s.string ≡ Some string = sym s.there ∙ (same_string entry row first o ∙ sym there) in
    let is : s.string ≡ string = cc in
    differs (subst (λ (x : List ℕ). LineSends x line row) is s.sends)

pub not_agreed : (rows cols : ℕ) (entry : Content) (line_of : Row → Option (List ℕ)) (first : Row) (string : List ℕ) → is_checked entry first ≡ true → Some string ≡ string_of entry first → (e : Disagreement) → IsDisagreement rows cols string line_of (order first) e
    → IsNotAgreed rows cols entry line_of e
not_agreed rows cols entry line_of first string checked there (Disagree row) h = (h.1, same_checked entry row first h.0 ∙ checked, other_string string entry (line_of row) row first h.0 there h.2)
not_agreed rows cols entry line_of first string checked there (Unwanted row) h = absurd h
not_agreed rows cols entry line_of first string checked there NoMemory h = tt

pub at_place : (rows cols : ℕ) (string : List ℕ) (line_of : Row → Option (List ℕ)) (n m : ℕ) (e : Disagreement) → n ≡ m → IsDisagreement rows cols string line_of n e → IsDisagreement rows cols string line_of m e
at_place rows cols string line_of n m e same h = subst (λ (k : ℕ). IsDisagreement rows cols string line_of k e) same h

pub on_ok : {A E P Q : Type 0} (r : Result A E) → (P → Q) → OnOk r P → OnOk r Q
on_ok (Ok x) f h = f h
on_ok (Err e) f h = h

pub on_err : {A E : Type 0} {P Q : E → Type 0} (r : Result A E) → ((e : E) → P e → Q e) → IfErr r P → IfErr r Q
on_err (Ok x) f h = h
on_err (Err e) f h = f e h

pub copied : {X : Type 0} (o : Option (Bor X)) → is_some o ≡ is_some (option_copied o)
copied None = refl
copied (Some b) = refl

pub first_is : (first row : Row) (n : ℕ) (o : Option Row) → Some first ≡ o → o ≡ Some row → order row ≡ n → order first ≡ n
first_is first row n o e f same = let is : Some first ≡ Some row = e ∙ f in let alike : first ≡ row = cc in ap (λ (r : Row). order r) alike ∙ same
