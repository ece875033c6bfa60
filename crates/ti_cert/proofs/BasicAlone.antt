-- A text that is accepted with exactly the lines of a basic entry is its basic text.
use Rattle.std.proofs.Common.{◌≡◌, ℕ, List, [], ◌∷◌, map, reverse, None, Result, Ok, inl, inr, refl, sym, ap, subst, ◌∙◌}
use Rattle.std.proofs.lemmas.Bool.{and_parts}
use Rattle.std.proofs.lemmas.Option.{same_Some}
use Rattle.vt_term.specs.Text.{Splits}
use Rattle.vt_term.proofs.Splits.{one_splitting}
use Rattle.vt_effects.specs.declared.effects.Effect.{Effect}
use Rattle.vt_effects.specs.Record.{record_of}
use Rattle.ti_conforms.specs.Charsets.{IsAmong}
use Rattle.ti_rows.specs.declared.rows.Row.{Row}
use Rattle.ti_rows.specs.declared.rows.Row.TheVariants.{Home, El}
use Rattle.ti_rows.specs.Asked.{start_of}
use Rattle.ti_lines.specs.declared.row_lines.RowLine.{RowLine}
use Rattle.ti_lines.specs.Texts.{line_texts, ended}
use Rattle.ti_conforms.specs.Sends.{Sends}
use Rattle.ti_conforms.specs.Entries.{has_string, string_of}
use Rattle.ti_cert.specs.Order.{Precedes}
use Rattle.ti_cert.specs.Certificates.{HasEffect}
use Rattle.ti_cert.specs.Texts.{StandInOrder, IsCertificate}
use Rattle.ti_cert.specs.Basic.{basic_bytes, basic_effect, basic_line, basic_rows, basic_text, BasicAlone}
use Rattle.ti_cert.proofs.Elements.{reversed_has, reversed_only, mapped_has, mapped_only, same_rising}
use Rattle.ti_cert.proofs.Standing.{stands_after, has_its_effect}
use Rattle.ti_cert.proofs.Singleness.{never_back}
use Rattle.ti_cert.proofs.Texts.{that_of_certificate}
use Rattle.ti_cert.proofs.BasicOrder.{Rises, kind_of, in_range, rows_rise}
use Rattle.ti_cert.proofs.BasicLines.{HasTokens, tokens_of, has_tokens}
use Rattle.ti_cert.proofs.BasicAgreement.{checked_kind, among_checked, some_string}

-- ---- the rows of lines that are in order

abbrev rows_in : List RowLine → List Row
rows_in lines = map (λ line. line.row) lines

in_order : (rows cols : ℕ) (before lines : List RowLine) → StandInOrder rows cols before lines → Rises rows cols (rows_in lines)
in_order rows cols before [] s = tt
in_order rows cols before (line ∷ lines) s = (
  λ row a. let m = mapped_only (λ (l : RowLine). l.row) lines row a in
      subst (λ (r : Row). Precedes rows cols line.row r) (sym m.is) (stands_after rows cols (line ∷ before) lines line s.1 (inl refl) m.from m.among),
  in_order rows cols (line ∷ before) lines s.1,
)

-- ---- each line is the basic one

line_is : (line : RowLine) (bytes : List ℕ) (effect : Effect) → line.bytes ≡ bytes → line.effect ≡ effect → line ≡ record { row = line.row; bytes = bytes; effect = effect }
line_is line bytes effect b e = ap (λ (x : List ℕ). record { row = line.row; bytes = x; effect = line.effect }) b ∙ ap (λ (x : Effect). record { row = line.row; bytes = bytes; effect = x }) e

effect_is : (rows cols : ℕ) (line : RowLine) → line.bytes ≡ basic_bytes line.row → HasTokens rows cols line.row → HasEffect rows cols line line.effect → line.effect ≡ basic_effect line.row
effect_is rows cols line b t h =
    let same = one_splitting (basic_bytes line.row) h.tokens (tokens_of line.row) [] [] (subst (λ (x : List ℕ). Splits x h.tokens []) b h.splits) t.splits in
    same_Some line.effect (basic_effect line.row) (sym h.recorded ∙ (ap (λ (ts : List (List ℕ)). record_of rows cols (start_of rows cols line.row) ts) (sym same.0) ∙ t.recorded))

all_lines : (lines : List RowLine) → ((line : RowLine) → IsAmong lines line → line ≡ basic_line line.row) → lines ≡ map basic_line (rows_in lines)
all_lines [] h = refl
all_lines (line ∷ lines) h = ap (λ (l : RowLine). l ∷ lines) (h line (inl refl)) ∙ ap (λ (ls : List RowLine). basic_line line.row ∷ ls) (all_lines lines (λ l a. h l (inr a)))

same_ok : {E : Type 0} (a b : List ℕ) (r : Result (List ℕ) E) → r ≡ Ok a → r ≡ Ok b → a ≡ b
same_ok a b r p q = cc

same_sent : (string : List ℕ) (row : Row) (a b : List ℕ) → Sends string row a → Sends string row b → a ≡ b
same_sent string row a b p q = same_ok a b _ p.sends q.sends

pub alone : BasicAlone
unfolding basic_text
alone entry rows cols text lines size b is sent = sym certificate.spelled.spelled ∙ ap (λ (ls : List RowLine). ended (line_texts (record { rows = rows; cols = cols; acsc = None; lines = ls }))) all
  where
    certificate : IsCertificate rows cols text None (reverse lines)
    certificate = that_of_certificate rows cols text None lines is

    own : (line : RowLine) → IsAmong lines line → IsAmong (basic_rows rows cols (has_string entry Home) (has_string entry El)) line.row
    own line a = among_checked entry rows cols line.row b (sent.range line a) (sent.checked line a)

    bytes_are : (line : RowLine) → IsAmong lines line → line.bytes ≡ basic_bytes line.row
    bytes_are line a =
        let s = some_string (string_of entry line.row) (and_parts (has_string entry line.row) _ (sent.checked line a)).0 in
        same_sent s.0 line.row line.bytes (basic_bytes line.row) (sent.sends line a s.0 s.1) (b.sends line.row (sent.range line a) (sent.checked line a) s.0 s.1)

    is_basic_line : (line : RowLine) → IsAmong lines line → line ≡ basic_line line.row
    is_basic_line line a =
        let t = has_tokens rows cols (has_string entry Home) (has_string entry El) line.row size (kind_of rows cols (has_string entry Home) (has_string entry El) line.row (own line a)) in
        line_is line (basic_bytes line.row) (basic_effect line.row) (bytes_are line a) (effect_is rows cols line (bytes_are line a) t (has_its_effect rows cols [] (reverse lines) line certificate.stands (reversed_has lines line a)))

    over : (row : Row) → IsAmong (rows_in (reverse lines)) row → IsAmong (basic_rows rows cols (has_string entry Home) (has_string entry El)) row
    over row a = let m = mapped_only (λ (l : RowLine). l.row) (reverse lines) row a in subst (λ (r : Row). IsAmong (basic_rows rows cols (has_string entry Home) (has_string entry El)) r) (sym m.is) (own m.from (reversed_only lines m.from m.among))

    back : (row : Row) → IsAmong (basic_rows rows cols (has_string entry Home) (has_string entry El)) row → IsAmong (rows_in (reverse lines)) row
    back row a =
        let k = kind_of rows cols (has_string entry Home) (has_string entry El) row a in
        let h = sent.all row (in_range rows cols (has_string entry Home) (has_string entry El) row k).0 (checked_kind entry rows cols row b k) in
        subst (λ (r : Row). IsAmong (rows_in (reverse lines)) r) h.of_row (mapped_has (λ (l : RowLine). l.row) (reverse lines) h.line (reversed_has lines h.line h.among))

    all : reverse lines ≡ map basic_line (basic_rows rows cols (has_string entry Home) (has_string entry El))
    all = all_lines (reverse lines) (λ line a. is_basic_line line (reversed_only lines line a))
        ∙ ap (λ (rs : List Row). map basic_line rs) (same_rising (Precedes rows cols) (never_back rows cols) (rows_in (reverse lines)) (basic_rows rows cols (has_string entry Home) (has_string entry El)) (in_order rows cols [] (reverse lines) certificate.stands)
        (rows_rise rows cols (has_string entry Home) (has_string entry El)) over back)
