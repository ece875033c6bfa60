-- The lines of a basic entry are its basic text, and no row of it is refused unless memory runs out.
use Rattle.std.proofs.Common.{◌≡◌, ℕ, true, List, [], ◌∷◌, map, reverse, Option, None, Some, Ok, refl, sym, ap, subst, ◌∙◌}
use Rattle.std.proofs.lemmas.Bool.{and_parts}
use Rattle.std.proofs.lemmas.Option.{same_Some, none-some}
use Rattle.vt_term.specs.Size.{IsSize}
use Rattle.vt_term.specs.Text.{Splits}
use Rattle.vt_term.proofs.Splits.{one_splitting}
use Rattle.vt_effects.specs.declared.effects.Effect.{Effect}
use Rattle.vt_effects.specs.Record.{record_of}
use Rattle.ti_caps.specs.Entry.{Content}
use Rattle.ti_conforms.specs.Charsets.{IsAmong}
use Rattle.ti_rows.specs.declared.rows.Looks.{Looks}
use Rattle.ti_rows.specs.declared.rows.Row.{Row}
use Rattle.ti_rows.specs.declared.rows.Row.TheVariants.{Home, El}
use Rattle.ti_rows.specs.Asked.{start_of, asked}
use Rattle.ti_rows.specs.Lists.{IsInRange}
use Rattle.ti_rows.specs.Looks.{learned}
use Rattle.ti_rows.proofs.Rightness.{recorded_is_right}
use Rattle.ti_lines.specs.declared.row_lines.RowLine.{RowLine}
use Rattle.ti_conforms.specs.Entries.{has_string, is_checked, string_of}
use Rattle.ti_cert.specs.Basic.{basic_bytes, basic_effect, basic_line, basic_rows, basic_text_of, IsBasic}
use Rattle.ti_cert.specs.Certificates.{Ended, IsAnswer}
use Rattle.ti_cert.specs.Order.{Precedes}
use Rattle.ti_conforms.specs.Looks.{no_looks}
use Rattle.ti_cert.proofs.BasicAgreement.{among_checked, checked_kind, some_string}
use Rattle.ti_cert.proofs.BasicLines.{HasTokens, tokens_of, has_tokens, has_effect}
use Rattle.ti_cert.proofs.BasicOrder.{Rises, Kind, IsClear, IsCup, IsEl, IsHome, IsSgr0, kind_of, in_range}
use Rattle.ti_cert.proofs.Elements.{reversed_has, reversed_only, mapped_has, mapped_only}
use Rattle.ti_cert.proofs.BasicTexts.{basic_accepted}
use Rattle.ti_checker.specs.Certificate.{IsCertificateOf}
use Rattle.ti_checker.specs.First.{SendsRight}
use Rattle.ti_checker.specs.Limit.{IsLineOf, InOrder}
use Rattle.ti_checker.specs.No.{SendsSome, HasFaultyString, IsRowFault, IsOfRow, HasUnasked, IsUntamed, ClaimsNothing, IsNo, OfEntry, OfRow, OfAll, OutOfMemory}
use Rattle.ti_checker.specs.declared.causes.Cause.{Cause}
use Rattle.ti_checker.specs.declared.causes.Cause.TheVariants.{FlagOut, Absent, AcsByte, Parm, StaticRead, Unfinished, Stuck, NotTame, BadLook, WrongEffect, NotShown, TooLong, NoResync, NoMemory}
use Rattle.ti_checker.specs.declared.causes.No.{No}
use Rattle.ti_checker.specs.Taught.{IsAskedOf}
use Rattle.ti_checker.proofs.Certified.{none_of_all}
use Rattle.ti_checker.proofs.Exclusions.{none_faulty, not_unfit}
use Rattle.ti_checker.proofs.Walks.{same_string}
use Rattle.ti_conforms.proofs.Matches.{same_checked}
use Rattle.ti_checker.proofs.Passages.{same_bytes, none_certified}

abbrev rows_of : Content → ℕ → ℕ → List Row
rows_of entry rows cols = basic_rows rows cols (has_string entry Home) (has_string entry El)

abbrev IsKind : Content → ℕ → ℕ → Row → Type 0
IsKind entry rows cols row = Kind rows cols (has_string entry Home) (has_string entry El) row

-- ---- the basic lines are those of the entry

checked_row : (entry : Content) (rows cols : ℕ) (row : Row) → IsBasic entry rows cols → IsInRange rows cols row → is_checked entry row ≡ true → IsKind entry rows cols row
checked_row entry rows cols row b range checked = kind_of rows cols (has_string entry Home) (has_string entry El) row (among_checked entry rows cols row b range checked)

its_tokens : (entry : Content) (rows cols : ℕ) (row : Row) → IsSize rows cols → IsKind entry rows cols row → HasTokens rows cols row
its_tokens entry rows cols row size k = has_tokens rows cols (has_string entry Home) (has_string entry El) row size k

basic_is : (entry : Content) (rows cols : ℕ) (row : Row) → IsSize rows cols → IsBasic entry rows cols → IsInRange rows cols row → is_checked entry row ≡ true → IsLineOf entry rows cols (basic_line row)
basic_is entry rows cols row size b range checked =
    let s = some_string (string_of entry row) (and_parts (has_string entry row) _ checked).0 in
    record {
      sent = record { range = range; checked = checked; sends = record { string = s.0; there = s.1; sends = b.sends row range checked s.0 s.1 } };
      has = has_effect rows cols row (its_tokens entry rows cols row size (checked_row entry rows cols row b range checked));
    }

in_order_of : (rows cols : ℕ) (list : List Row) → Rises rows cols list → InOrder rows cols (map basic_line list)
in_order_of rows cols [] h = tt
in_order_of rows cols (row ∷ list) h = (
  λ other a. let m = mapped_only basic_line list other a in subst (λ (l : RowLine). Precedes rows cols row l.row) (sym m.is) (h.0 m.from m.among),
  in_order_of rows cols list h.1,
)

record IsOwn (entry : Content) (rows cols : ℕ) (line : RowLine) : Type 0 where
  row : Row
  range : IsInRange rows cols row
  checked : is_checked entry row ≡ true
  is : line ≡ basic_line row

own_line : (entry : Content) (rows cols : ℕ) (line : RowLine) → IsBasic entry rows cols → IsAmong (map basic_line (rows_of entry rows cols)) line → IsOwn entry rows cols line
own_line entry rows cols line b a =
    let m = mapped_only basic_line (rows_of entry rows cols) line a in
    let k = kind_of rows cols (has_string entry Home) (has_string entry El) m.from m.among in
    record { row = m.from; range = (in_range rows cols (has_string entry Home) (has_string entry El) m.from k).0; checked = checked_kind entry rows cols m.from b k; is = m.is }

-- ---- the basic text is its certificate

pub is_certificate : (entry : Content) (rows cols : ℕ) → IsSize rows cols → IsBasic entry rows cols → IsCertificateOf entry rows cols (basic_text_of entry rows cols)
is_certificate entry rows cols size b = record {
  lines = reverse (map basic_line (rows_of entry rows cols));
  says = subst (λ (pairs : Option (List ℕ)). IsAnswer rows cols (basic_text_of entry rows cols) (Ok (Ended pairs (reverse (map basic_line (rows_of entry rows cols)))))) (sym b.no_pairs)
      (basic_accepted rows cols (has_string entry Home) (has_string entry El) size);
  sends = λ line a.
      let o = own_line entry rows cols line b (reversed_only (map basic_line (rows_of entry rows cols)) line a) in
      (subst (λ (l : RowLine). IsLineOf entry rows cols l) (sym o.is) (basic_is entry rows cols o.row size b o.range o.checked)).sent;
  complete = λ row range checked. record {
    line = basic_line row;
    among = reversed_has (map basic_line (rows_of entry rows cols)) (basic_line row) (mapped_has basic_line (rows_of entry rows cols) row (among_checked entry rows cols row b range checked));
    of_row = refl;
  };
}

-- ---- no row is refused

is_asked : (entry : Content) (rows cols : ℕ) (looks : Looks) (row : Row) → IsKind entry rows cols row → basic_effect row ≡ asked looks row (basic_effect row)
is_asked entry rows cols looks row (IsClear e) = subst (λ (r : Row). basic_effect r ≡ asked looks r (basic_effect r)) (sym e) refl
is_asked entry rows cols looks row (IsCup r c e h k) = subst (λ (r : Row). basic_effect r ≡ asked looks r (basic_effect r)) (sym e) refl
is_asked entry rows cols looks row (IsHome there e) = subst (λ (r : Row). basic_effect r ≡ asked looks r (basic_effect r)) (sym e) refl
is_asked entry rows cols looks row (IsEl there e) = subst (λ (r : Row). basic_effect r ≡ asked looks r (basic_effect r)) (sym e) refl
is_asked entry rows cols looks row (IsSgr0 e) = subst (λ (r : Row). basic_effect r ≡ asked looks r (basic_effect r)) (sym e) refl

sends_right : (entry : Content) (rows cols : ℕ) (row : Row) (string : List ℕ) → IsSize rows cols → IsBasic entry rows cols → IsInRange rows cols row → is_checked entry row ≡ true → string_of entry row ≡ Some string → SendsRight rows cols no_looks string row
sends_right entry rows cols row string size b range checked there =
    let k = checked_row entry rows cols row b range checked in
    let t = its_tokens entry rows cols row size k in
    record {
      bytes = basic_bytes row;
      sends = b.sends row range checked string there;
      right = recorded_is_right rows cols no_looks row (basic_bytes row) (tokens_of row) (basic_effect row) t.splits t.recorded (is_asked entry rows cols no_looks row k);
    }

same_record : (rows cols : ℕ) (row : Row) (tokens : List (List ℕ)) (o : Option Effect) → HasTokens rows cols row → Splits (basic_bytes row) tokens [] → record_of rows cols (start_of rows cols row) tokens ≡ o → o ≡ Some (basic_effect row)
same_record rows cols row tokens o t whole e =
    let same = one_splitting (basic_bytes row) tokens (tokens_of row) [] [] whole t.splits in
    sym e ∙ (ap (λ (ts : List (List ℕ)). record_of rows cols (start_of rows cols row) ts) (sym same.0) ∙ t.recorded)

not_untamed : (rows cols : ℕ) (row : Row) → HasTokens rows cols row → IsUntamed rows cols row (basic_bytes row) → ⊥
not_untamed rows cols row t u = none-some (basic_effect row) (same_record rows cols row u.tokens None t u.whole u.unrecorded)

not_unasked : (entry : Content) (rows cols : ℕ) (string : List ℕ) (row : Row) → IsKind entry rows cols row → HasTokens rows cols row → HasUnasked rows cols string row (basic_bytes row) → ⊥
not_unasked entry rows cols string row k t u =
    let e : u.has.effect ≡ basic_effect row = same_Some u.has.effect (basic_effect row) (same_record rows cols row u.has.tokens (Some u.has.effect) t u.has.whole u.has.recorded) in
    u.unasked.unasked (subst (λ (x : Effect). IsAskedOf u.unasked.looks row x) (sym e) (is_asked entry rows cols (learned row (basic_effect row) u.unasked.looks) row k))

sends_basic : (entry : Content) (rows cols : ℕ) (row : Row) (string : List ℕ) (Holds : List ℕ → Type 0) → IsBasic entry rows cols → IsInRange rows cols row → is_checked entry row ≡ true → string_of entry row ≡ Some string
    → SendsSome string row Holds → Holds (basic_bytes row)
sends_basic entry rows cols row string Holds b range checked there s = subst Holds (same_bytes string row s.bytes (basic_bytes row) s.sends (b.sends row range checked string there)) s.holds

its_claim : (entry : Content) (rows cols : ℕ) (row : Row) (cause : Cause) → IsSize rows cols → IsBasic entry rows cols → IsInRange rows cols row → is_checked entry row ≡ true → HasFaultyString entry rows cols row cause → ClaimsNothing cause
its_claim entry rows cols row cause size b range checked f = none_faulty rows cols no_looks f.string row cause (sends_right entry rows cols row f.string size b range checked f.there)
    (λ other in_range same lt. sends_right entry rows cols other f.string size b in_range (same_checked entry other row same ∙ checked) (same_string entry other row same ∙ f.there)) f.faulty

by_cause : (entry : Content) (rows cols : ℕ) (row : Row) (cause : Cause) → IsSize rows cols → IsBasic entry rows cols → IsInRange rows cols row → is_checked entry row ≡ true → IsRowFault entry rows cols row cause → cause ≡ NoMemory
by_cause entry rows cols row NoMemory size b range checked f = refl
by_cause entry rows cols row TooLong size b range checked f = absurd (none_certified entry rows cols row (basic_text_of entry rows cols) f (is_certificate entry rows cols size b))
by_cause entry rows cols row NotTame size b range checked f =
    absurd (not_untamed rows cols row (its_tokens entry rows cols row size (checked_row entry rows cols row b range checked))
    (sends_basic entry rows cols row f.string (λ bytes. IsUntamed rows cols row bytes) b range checked f.there f.faulty))
by_cause entry rows cols row NotShown size b range checked f =
    let k = checked_row entry rows cols row b range checked in
    absurd (not_unasked entry rows cols f.string row k (its_tokens entry rows cols row size k)
    (sends_basic entry rows cols row f.string (λ bytes. HasUnasked rows cols f.string row bytes) b range checked f.there f.faulty))
by_cause entry rows cols row FlagOut size b range checked f = absurd (its_claim entry rows cols row FlagOut size b range checked f)
by_cause entry rows cols row Absent size b range checked f = absurd (its_claim entry rows cols row Absent size b range checked f)
by_cause entry rows cols row AcsByte size b range checked f = absurd (its_claim entry rows cols row AcsByte size b range checked f)
by_cause entry rows cols row (Parm fault) size b range checked f = absurd (its_claim entry rows cols row (Parm fault) size b range checked f)
by_cause entry rows cols row StaticRead size b range checked f = absurd (its_claim entry rows cols row StaticRead size b range checked f)
by_cause entry rows cols row Unfinished size b range checked f = absurd (its_claim entry rows cols row Unfinished size b range checked f)
by_cause entry rows cols row Stuck size b range checked f = absurd (its_claim entry rows cols row Stuck size b range checked f)
by_cause entry rows cols row BadLook size b range checked f = absurd (its_claim entry rows cols row BadLook size b range checked f)
by_cause entry rows cols row (WrongEffect p) size b range checked f = absurd (its_claim entry rows cols row (WrongEffect p) size b range checked f)
by_cause entry rows cols row NoResync size b range checked f = absurd (its_claim entry rows cols row NoResync size b range checked f)

pub only_memory : (entry : Content) (rows cols : ℕ) (refusal : No) → IsSize rows cols → IsBasic entry rows cols → IsOfRow entry rows cols refusal → refusal.cause ≡ NoMemory
only_memory entry rows cols refusal size b h = by_cause entry rows cols h.row refusal.cause size b h.range h.checked h.fault

-- a basic entry is refused only if memory runs out
pub never_refused : (entry : Content) (rows cols : ℕ) (refusal : No) → IsSize rows cols → IsBasic entry rows cols → IsNo entry rows cols refusal → refusal.cause ≡ NoMemory
never_refused entry rows cols refusal size b (OfEntry h) = absurd (not_unfit entry refusal b.fit h)
never_refused entry rows cols refusal size b (OfRow fit h) = only_memory entry rows cols refusal size b h
never_refused entry rows cols refusal size b (OfAll fit written h) = absurd (none_of_all entry rows cols (basic_text_of entry rows cols) refusal (is_certificate entry rows cols size b) h)
never_refused entry rows cols refusal size b (OutOfMemory e) = e
