-- Notes that are added to others, token by token and row by row.
use Rattle.std.proofs.Common.{◌≡◌, ℕ, zero, suc, ◌+◌, List, [], ◌∷◌, ◌++◌, take, Option, None, Some, refl, sym, ap, subst, ◌∙◌, append_assoc, add-one}
use Rattle.std.specs.List.{slice_get}
use Rattle.std.proofs.lemmas.List.{append-nil}
use Rattle.vt_term.specs.Size.{IsSize}
use Rattle.ti_caps.specs.Entry.{Content}
use Rattle.ti_rows.specs.declared.rows.Row.{Row}
use Rattle.ti_rows.specs.Names.{firsts, first_in_order}
use Rattle.ti_rows.proofs.ListFacts.{firsts_in_range}
use Rattle.ti_checker.specs.No.{IsFaulty, HasFaulty}
use Rattle.ti_checker.specs.Notes.{SendsNoTokens, RowNotes, RowsNotes, IsUnsentAt, IsFirstUnsent, AddsNotesAt}
use Rattle.ti_checker.specs.declared.note_list.CheckNote.{CheckNote}
use Rattle.ti_checker.specs.declared.causes.Cause.{Cause}
use Rattle.ti_checker.specs.declared.causes.Cause.TheVariants.{Parm, StaticRead, Unfinished, Stuck, NoMemory}
use Rattle.ti_checker.specs.declared.causes.No.{No}

-- ---- rows

rows_end : (entry : Content) (rows : List Row) (row : Row) (old own : List CheckNote) → RowsNotes entry rows old → RowNotes entry row own → RowsNotes entry (rows ++ row ∷ []) (old ++ own)
unfolding RowsNotes
rows_end entry [] row old own h k = (own, [], ap (λ (l : List CheckNote). l ++ own) h ∙ sym (append-nil own), k, refl)
rows_end entry (first ∷ rows) row old own h k =
    (h.0, h.1 ++ own, ap (λ (l : List CheckNote). l ++ own) h.2 ∙ append_assoc h.0 h.1 own, h.3, rows_end entry rows row h.1 own h.4 k)

taken_some : (rows : List Row) (n : ℕ) (row : Row) → slice_get rows n ≡ Some row → take (suc n) rows ≡ take n rows ++ row ∷ []
taken_some [] n row h = cc
taken_some (first ∷ rows) zero row h = let same : first ≡ row = cc in ap (λ (r : Row). r ∷ []) same
taken_some (first ∷ rows) (suc n) row h = ap (λ (l : List Row). first ∷ l) (taken_some rows n row h)

taken_none : (rows : List Row) (n : ℕ) → slice_get rows n ≡ None → take (suc n) rows ≡ take n rows
taken_none [] zero h = refl
taken_none [] (suc n) h = refl
taken_none (first ∷ rows) zero h = cc
taken_none (first ∷ rows) (suc n) h = ap (λ (l : List Row). first ∷ l) (taken_none rows n h)

first_taken : (n : ℕ) (row : Row) → first_in_order n ≡ Some row → take (suc n) firsts ≡ take n firsts ++ row ∷ []
unfolding first_in_order
first_taken n row h = taken_some firsts n row h

none_taken : (n : ℕ) → first_in_order n ≡ None → take (suc n) firsts ≡ take n firsts
unfolding first_in_order
none_taken n h = taken_none firsts n h

rows_more_by : (entry : Content) (place : ℕ) (old new : List CheckNote) (first : Option Row) → first_in_order place ≡ first → RowsNotes entry (take place firsts) old → AddsNotesAt entry place old new
    → RowsNotes entry (take (suc place) firsts) new
rows_more_by entry place old new None e h a =
    subst (λ (l : List CheckNote). RowsNotes entry (take (suc place) firsts) l) (sym (a.none e))
    (subst (λ (rows : List Row). RowsNotes entry rows old) (sym (none_taken place e)) h)
rows_more_by entry place old new (Some row) e h a =
    let b = a.some row e in
    subst (λ (l : List CheckNote). RowsNotes entry (take (suc place) firsts) l) (sym b.added)
    (subst (λ (rows : List Row). RowsNotes entry rows (old ++ b.own)) (sym (first_taken place row e)) (rows_end entry (take place firsts) row old b.own h b.noted))

pub rows_more : (entry : Content) (place : ℕ) (old new : List CheckNote) → RowsNotes entry (take place firsts) old → AddsNotesAt entry place old new → RowsNotes entry (take (place + 1) firsts) new
rows_more entry place old new h a =
    let more : suc place ≡ place + 1 = sym (add-one place) in
    subst (λ (n : ℕ). RowsNotes entry (take n firsts) new) more (rows_more_by entry place old new (first_in_order place) refl h a)

pub no_rows : (entry : Content) → RowsNotes entry [] []
unfolding RowsNotes
no_rows entry = refl

-- ---- strings that send no whole tokens

faulty : (rows cols : ℕ) (string : List ℕ) (row : Row) (cause : Cause) → SendsNoTokens string row cause → IsFaulty rows cols string row cause
faulty rows cols string row (Parm fault) h = h
faulty rows cols string row StaticRead h = h
faulty rows cols string row Unfinished h = h
faulty rows cols string row Stuck h = h
faulty rows cols string row NoMemory h = tt
faulty rows cols string row _ h = absurd h

pub faulty_unsent : (entry : Content) (rows cols place : ℕ) (refusal : No) → IsSize rows cols → IsUnsentAt entry place refusal → HasFaulty entry rows cols refusal
faulty_unsent entry rows cols place refusal size u = record {
  row = u.row;
  cap_is = u.cap_is;
  params_are = u.params_are;
  range = (firsts_in_range rows cols place u.row size u.is_first).range;
  checked = u.checked;
  string = u.string;
  there = u.there;
  faulty = faulty rows cols u.string u.row refusal.cause u.unsent;
}

pub first_unsent : (entry : Content) (place : ℕ) (notes : List CheckNote) (refusal : No) → RowsNotes entry (take place firsts) notes → IsUnsentAt entry place refusal → IsFirstUnsent entry refusal
first_unsent entry place notes refusal h u = record { place = place; unsent = u; earlier = notes; noted = h }
