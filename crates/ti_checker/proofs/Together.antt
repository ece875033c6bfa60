-- Refusals, and the bytes that lead out of an unknown state as a text.
use Rattle.std.proofs.Common.{◌≡◌, inl, inr, ℕ, ◌-◌, ◌+◌, ◌<◌, suc, Bool, List, [], ◌∷◌, ◌++◌, length, get_or, take, zero, sym, ap, subst, ◌∙◌, arith}
use Rattle.std.proofs.lemmas.Bool.{cases_Bool}
use Rattle.ti_caps.specs.Entry.{Content}
use Rattle.ti_rows.specs.declared.rows.Row.{Row}
use Rattle.ti_rows.specs.declared.rows.Row.TheVariants.{Csr}
use Rattle.ti_rows.specs.Lists.{IsInRange}
use Rattle.ti_conforms.specs.Sends.{Sends}
use Rattle.ti_conforms.specs.Table.{Table, or_nothing, text_of, resync}
use Rattle.ti_conforms.specs.Conforms.{IsFit}
use Rattle.ti_conforms.specs.Unfit.{IsUnfit, cap_of_unfit}
use Rattle.ti_conforms.specs.declared.fitness.Unfit.{Unfit}
use Rattle.vt_term.specs.Size.{IsSize}
use Rattle.ti_checker.specs.No.{IsFaulty, IsUnsendable, cause_of_unfit, IsOfEntry, IsOfRow, IsNo, OfEntry, OfRow, OutOfMemory, IsOfPart, PartRow, PartMemory}
use Rattle.ti_checker.specs.Kept.{is_sent, HasKept, OfAllKept}
use Rattle.ti_cert.specs.Clashes.{BeginsOpen}
use Rattle.ti_checker.specs.declared.causes.Cause.{Cause}
use Rattle.ti_checker.specs.declared.causes.Cause.TheVariants.{Parm, StaticRead, NoMemory}
use Rattle.ti_checker.specs.declared.causes.No.{No}
use Rattle.ti_checker.specs.Resync.{AreInRange, IsPart, SendsAll}
use Rattle.ti_conforms.specs.Resync.{resync_rows, texts_of}
use Rattle.ti_conforms.proofs.Sendable.{in_order, texts_more}

pub by_reason : (entry : Content) (refusal : No) (why : Unfit) → IsUnfit entry why → refusal.cap ≡ cap_of_unfit why → refusal.params.items ≡ [] → refusal.cause ≡ cause_of_unfit why → IsOfEntry entry refusal
by_reason entry refusal why h cap none cause = record { why = why; first = h; about = record { cap_is = cap; no_params = none; cause_is = cause } }

pub entry_no : (entry : Content) (rows cols : ℕ) (refusal : No) → IsOfEntry entry refusal → IsNo entry rows cols refusal
entry_no entry rows cols refusal h = OfEntry h

pub row_of_part : (entry : Content) (rows cols : ℕ) (refusal : No) → IsFit entry → IsOfRow entry rows cols refusal → IsOfPart entry rows cols refusal
row_of_part entry rows cols refusal fit h = PartRow fit h

pub memory_of_part : (entry : Content) (rows cols : ℕ) (refusal : No) → refusal.cause ≡ NoMemory → IsOfPart entry rows cols refusal
memory_of_part entry rows cols refusal e = PartMemory e

pub memory_no : (entry : Content) (rows cols : ℕ) (refusal : No) → refusal.cause ≡ NoMemory → IsNo entry rows cols refusal
memory_no entry rows cols refusal e = OutOfMemory e

pub part_no : (entry : Content) (rows cols : ℕ) (refusal : No) → IsOfPart entry rows cols refusal → IsNo entry rows cols refusal
part_no entry rows cols refusal (PartRow fit h) = OfRow fit h
part_no entry rows cols refusal (PartMemory e) = OutOfMemory e

-- the reason why a string sends nothing is a fault of the string
pub unsendable : (rows cols : ℕ) (string : List ℕ) (row : Row) (cause : Cause) → IsUnsendable string row cause → IsFaulty rows cols string row cause
unsendable rows cols string row (Parm fault) h = h
unsendable rows cols string row StaticRead h = h
unsendable rows cols string row NoMemory h = tt
unsendable rows cols string row _ h = absurd h

same_part : (entry : Content) (rows cols : ℕ) (kept : ℕ → Bool) (t : Table) → HasKept entry rows cols kept t → (row : Row) → IsInRange rows cols row → (bytes : List ℕ) → IsPart entry kept row bytes → text_of t row ≡ bytes
same_part entry rows cols kept t h row range bytes p = elim (cases_Bool (is_sent entry kept row)) [
  | inl sent ↦ (let s = (h.sends row range).sent sent in
      let own = p.sent sent in
      let same : s.string ≡ own.string = cc (s.there, own.there) in
      let sends : Sends own.string row s.sends.bytes = subst (λ (x : List ℕ). Sends x row s.sends.bytes) same s.sends.sends in
      let is : s.sends.bytes ≡ bytes = cc (sends.sends, own.sends.sends) in
      ap or_nothing s.sends.line_has ∙ is)
  | inr unsent ↦ ap or_nothing ((h.sends row range).unsent unsent) ∙ sym (p.unsent unsent)
]

pub whole_screen : (rows cols : ℕ) → IsSize rows cols → IsInRange rows cols (Csr 0 (rows - 1))
whole_screen rows cols size = (omega (arith, size.0), omega (arith, size.0))

-- the rows of a resynchronization are rows of the screen
in_range : (rows cols : ℕ) → IsSize rows cols → (i : ℕ) (d : Row) → i < 6 → IsInRange rows cols (get_or (resync_rows rows) i d)
in_range rows cols size zero d lt = tt
in_range rows cols size (suc zero) d lt = tt
in_range rows cols size (suc (suc zero)) d lt = tt
in_range rows cols size (suc (suc (suc zero))) d lt = tt
in_range rows cols size (suc (suc (suc (suc zero)))) d lt = whole_screen rows cols size
in_range rows cols size (suc (suc (suc (suc (suc zero))))) d lt = tt
in_range rows cols size (suc (suc (suc (suc (suc (suc i)))))) d lt = absurd (omega (arith, lt))

pub resync_ranges : (rows cols : ℕ) (given : List Row) → IsSize rows cols → given ≡ resync_rows rows → AreInRange rows cols given
resync_ranges rows cols given size is = subst (λ (l : List Row). AreInRange rows cols l) (sym is) (in_range rows cols size)

-- the text with the bytes of one more row
pub sent_more : (entry : Content) (height width : ℕ) (kept : ℕ → Bool) (rows : List Row) (i : ℕ) (d row : Row) (text bytes new : List ℕ) → i < length rows → row ≡ get_or rows i d → IsInRange height width row → IsPart entry kept row bytes
    → SendsAll entry height width kept (take i rows) text → new ≡ text ++ bytes → SendsAll entry height width kept (take (i + 1) rows) new
sent_more entry height width kept rows i d row text bytes new lt is range part before joined t h =
    texts_more t.line_of [] text new rows i d row lt is (joined ∙ ap (λ (xs : List ℕ). text ++ xs) (sym (same_part entry height width kept t h row range bytes part))) (before t h)

resync_text : (entry : Content) (rows cols : ℕ) (kept : ℕ → Bool) (t : Table) → HasKept entry rows cols kept t → (given : List Row) → given ≡ resync_rows rows → (text : List ℕ) → SendsAll entry rows cols kept given text → resync t ≡ text
resync_text entry rows cols kept t h given is text sends =
    in_order t ∙ (ap (λ (n : ℕ). texts_of t.line_of (resync_rows n)) h.rows_are ∙ (ap (λ (l : List Row). texts_of t.line_of l) (sym is) ∙ sym (sends t h)))

pub escaped : (entry : Content) (rows cols : ℕ) (kept : ℕ → Bool) (given : List Row) → given ≡ resync_rows rows → (text : List ℕ) → SendsAll entry rows cols kept given text → (rest : List ℕ) → text ≡ 27 ∷ rest
    → OfAllKept entry rows cols kept (λ t. BeginsOpen t → ⊥)
escaped entry rows cols kept given is text sends rest begins t h never = never rest (resync_text entry rows cols kept t h given is text sends ∙ begins)

pub stays_open : (entry : Content) (rows cols : ℕ) (kept : ℕ → Bool) (given : List Row) → given ≡ resync_rows rows → (text : List ℕ) → SendsAll entry rows cols kept given text → ((rest : List ℕ) → text ≡ 27 ∷ rest → ⊥)
    → OfAllKept entry rows cols kept (λ t. BeginsOpen t)
stays_open entry rows cols kept given is text sends never t h rest e = never rest (sym (resync_text entry rows cols kept t h given is text sends) ∙ e)
