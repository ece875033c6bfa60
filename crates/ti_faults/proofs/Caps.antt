-- The faults of a capability, by its string.
use Rattle.std.proofs.Common.{◌≡◌, ◌≢◌, ◌+◌, ℕ, suc, true, false, List, [], ◌∷◌, ◌++◌, Option, None, Some, IfNone, IfSome, refl, sym, subst, ◌∙◌, add-one}
use Rattle.std.proofs.lemmas.Bool.{false≢true}
use Rattle.std.proofs.lemmas.List.{append-nil}
use Rattle.std.proofs.lemmas.Option.{same_Some}
use Rattle.ti_caps.specs.Entry.{Content}
use Rattle.ti_rows.specs.declared.rows.Row.{Row}
use Rattle.ti_rows.specs.Names.{order}
use Rattle.ti_conforms.specs.Entries.{is_checked, string_of}
use Rattle.ti_conforms.proofs.Matches.{same_checked}
use Rattle.ti_checker.specs.First.{CapStands, RowStands, SendsAsked}
use Rattle.ti_checker.specs.declared.causes.Cause.TheVariants.{NoMemory}
use Rattle.ti_checker.specs.declared.causes.No.{No}
use Rattle.ti_checker.proofs.Walks.{same_string}
use Rattle.ti_faults.specs.RowFaults.{IsCapFault, OfCap, Stands, Fails, OfCaps, SendsAllAsked, IsStringFault, AddsCap}

stands : (entry : Content) (rows cols : ℕ) (row : Row) (string : List ℕ) → string_of entry row ≡ Some string → SendsAsked rows cols string row → RowStands entry rows cols row
stands entry rows cols row string there right checked other found = subst (λ (x : List ℕ). SendsAsked rows cols x row) (same_Some string other (sym there ∙ found)) right

pub cap_stands : (entry : Content) (rows cols place : ℕ) (first : Row) (string : List ℕ) → order first ≡ place → string_of entry first ≡ Some string → SendsAllAsked rows cols string (order first) → CapStands entry rows cols place
cap_stands entry rows cols place first string same there right row range alike =
    stands entry rows cols row string (same_string entry row first (alike ∙ sym same) ∙ there) (right row range (alike ∙ sym same))

pub unchecked_stands : (entry : Content) (rows cols place : ℕ) (first : Row) → order first ≡ place → is_checked entry first ≡ false → CapStands entry rows cols place
unchecked_stands entry rows cols place first same unchecked row range alike checked string there =
    absurd (false≢true (sym unchecked ∙ (same_checked entry first row (same ∙ sym alike) ∙ checked)))

pub cap_fault_of : (entry : Content) (rows cols place : ℕ) (first : Row) (string : List ℕ) (refusal : No) → order first ≡ place → is_checked entry first ≡ true → string_of entry first ≡ Some string → IsStringFault rows cols string (order first) refusal
    → IsCapFault entry rows cols place refusal
cap_fault_of entry rows cols place first string refusal same checked there f = record {
  row = f.row;
  of_cap = f.of_cap ∙ same;
  cap_is = f.cap_is;
  params_are = f.params_are;
  range = f.range;
  checked = same_checked entry f.row first f.of_cap ∙ checked;
  fault = record { string = string; there = same_string entry f.row first f.of_cap ∙ there; faulty = f.faulty };
  earlier = λ other range alike lt. stands entry rows cols other string (same_string entry other first (alike ∙ sym same) ∙ there) (f.earlier other range (alike ∙ sym same) lt);
}

-- ---- one more capability

pub no_caps : (entry : Content) (rows cols : ℕ) → OfCaps entry rows cols 0 []
unfolding OfCaps
no_caps entry rows cols = refl

caps_suc : (entry : Content) (rows cols n : ℕ) (front own : List No) → OfCaps entry rows cols n front → OfCap entry rows cols n own → OfCaps entry rows cols (suc n) (front ++ own)
unfolding OfCaps
caps_suc entry rows cols n front own h k = (front, own, refl, h, k)

pub one_cap_more : (entry : Content) (rows cols n : ℕ) (mid new : List No) → OfCaps entry rows cols n mid → AddsCap entry rows cols n mid new → OfCaps entry rows cols (n + 1) new
one_cap_more entry rows cols n mid new a b =
    subst (λ (l : List No). OfCaps entry rows cols (n + 1) l) (sym b.added) (subst (λ (m : ℕ). OfCaps entry rows cols m (mid ++ b.own)) (sym (add-one n)) (caps_suc entry rows cols n mid b.own a b.of_cap))

-- the faults added for a capability
pub stands_added : (entry : Content) (rows cols place : ℕ) (nos : List No) → CapStands entry rows cols place → AddsCap entry rows cols place nos nos
stands_added entry rows cols place nos h = record { own = []; added = sym (append-nil nos); of_cap = Stands refl h }

pub fault_added : (entry : Content) (rows cols place : ℕ) (old new : List No) (refusal : No) → refusal.cause ≢ NoMemory → new ≡ old ++ refusal ∷ [] → IsCapFault entry rows cols place refusal → AddsCap entry rows cols place old new
fault_added entry rows cols place old new refusal claims added h = record { own = refusal ∷ []; added = added; of_cap = Fails refusal refl claims h }

-- ---- answers that may be none

pub on_none : {A : Type 0} {P Q : Type 0} (o : Option A) → (P → Q) → IfNone o P → IfNone o Q
on_none None f h = f h
on_none (Some a) f h = tt

pub on_some : {A : Type 0} {P Q : A → Type 0} (o : Option A) → ((a : A) → P a → Q a) → IfSome o P → IfSome o Q
on_some None f h = tt
on_some (Some a) f h = f a h
