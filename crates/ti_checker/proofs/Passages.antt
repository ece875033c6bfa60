-- An entry whose lines are too long has no certificate.
use Rattle.std.proofs.Common.{◌≡◌, ◌+◌, ℕ, List, [], ◌∷◌, ◌++◌, map, reverse, length, Some, refl, sym, ap, subst, ◌∙◌, arith, append_assoc, length-append}
use Rattle.std.proofs.lemmas.List.{map-append}
use Rattle.std.proofs.lemmas.Option.{same_Some}
use Rattle.vt_term.specs.Text.{Splits}
use Rattle.vt_term.proofs.Splits.{one_splitting}
use Rattle.vt_effects.specs.declared.effects.Effect.{Effect}
use Rattle.vt_effects.specs.Record.{record_of}
use Rattle.ti_caps.specs.Entry.{Content, string_at}
use Rattle.ti_conforms.specs.Charsets.{IsAmong}
use Rattle.ti_rows.specs.declared.rows.Row.{Row}
use Rattle.ti_rows.specs.Asked.{start_of}
use Rattle.ti_lines.specs.declared.row_lines.RowLine.{RowLine}
use Rattle.ti_lines.specs.Heads.{size_text, end_text}
use Rattle.ti_lines.specs.RowLines.{line_text}
use Rattle.ti_lines.specs.Texts.{acsc_lines, row_lines, ended}
use Rattle.ti_conforms.specs.Sends.{Sends}
use Rattle.ti_conforms.specs.Entries.{acsc}
use Rattle.ti_cert.specs.Texts.{IsCertificate}
use Rattle.ti_cert.proofs.Texts.{that_of_certificate}
use Rattle.ti_checker.specs.Certificate.{IsCertificateOf, SendsFor}
use Rattle.ti_checker.specs.Limit.{IsLineOf, PassesLimit, text_with, front_with}
use Rattle.ti_cert.proofs.Elements.{reversed_has}
use Rattle.ti_cert.proofs.Standing.{has_its_effect}
use Rattle.ti_checker.proofs.Order.{size_of, no_longer, in_order}

-- ---- an entry has one line for a row

pub same_bytes : (string : List ℕ) (row : Row) (a b : List ℕ) → Sends string row a → Sends string row b → a ≡ b
same_bytes string row a b s t = cc (s.sends, t.sends)

sent_once : (entry : Content) (row : Row) (a b : List ℕ) → SendsFor entry row a → SendsFor entry row b → a ≡ b
sent_once entry row a b s t =
    let same : t.string ≡ s.string = same_Some t.string s.string (sym t.there ∙ s.there) in
    same_bytes s.string row a b s.sends (subst (λ (x : List ℕ). Sends x row b) same t.sends)

effect_once : (rows cols : ℕ) (row : Row) (bytes : List ℕ) (a b : Effect) (ts us : List (List ℕ)) → Splits bytes ts [] → Splits bytes us [] → record_of rows cols (start_of rows cols row) ts ≡ Some a
    → record_of rows cols (start_of rows cols row) us ≡ Some b → a ≡ b
effect_once rows cols row bytes a b ts us s t p q =
    let same = one_splitting bytes ts us [] [] s t in
    same_Some a b (sym p ∙ (ap (λ (x : List (List ℕ)). record_of rows cols (start_of rows cols row) x) (sym same.0) ∙ q))

alike : (x y : RowLine) → x.row ≡ y.row → x.bytes ≡ y.bytes → x.effect ≡ y.effect → x ≡ y
alike x y r b e =
    ap (λ (w : Row). record { row = w; bytes = x.bytes; effect = x.effect }) r
    ∙ (ap (λ (w : List ℕ). record { row = y.row; bytes = w; effect = x.effect }) b
    ∙ ap (λ (w : Effect). record { row = y.row; bytes = y.bytes; effect = w }) e)

pub line_once : (entry : Content) (rows cols : ℕ) (x y : RowLine) → IsLineOf entry rows cols x → IsLineOf entry rows cols y → x.row ≡ y.row → x ≡ y
line_once entry rows cols x y p q e = alike x y e bytes (effect_once rows cols y.row y.bytes x.effect y.effect p.has.tokens q.has.tokens splits q.has.splits recorded q.has.recorded)
  where
    bytes : x.bytes ≡ y.bytes
    bytes = sent_once entry y.row x.bytes y.bytes (subst (λ (r : Row). SendsFor entry r x.bytes) e p.sent.sends) q.sent.sends

    splits : Splits y.bytes p.has.tokens []
    splits = subst (λ (bs : List ℕ). Splits bs p.has.tokens []) bytes p.has.splits

    recorded : record_of rows cols (start_of rows cols y.row) p.has.tokens ≡ Some x.effect
    recorded = subst (λ (r : Row). record_of rows cols (start_of rows cols r) p.has.tokens ≡ Some x.effect) e p.has.recorded

-- ---- texts with lines

pub ended_both : (xs ys : List (List ℕ)) → ended (xs ++ ys) ≡ ended xs ++ ended ys
ended_both [] ys = refl
ended_both (x ∷ xs) ys = ap (λ (l : List ℕ). x ++ 10 ∷ l) (ended_both xs ys) ∙ sym (append_assoc x (10 ∷ ended xs) (ended ys))

rows_are : (lines : List RowLine) → row_lines lines ≡ map line_text lines ++ end_text ∷ []
rows_are [] = refl
rows_are (line ∷ lines) = ap (λ (ls : List (List ℕ)). line_text line ∷ ls) (rows_are lines)

abbrev pub heads : Content → ℕ → ℕ → List (List ℕ)
heads entry rows cols = size_text rows cols ∷ acsc_lines (string_at entry acsc)

abbrev pub last : List ℕ
last = 101 ∷ 110 ∷ 100 ∷ 10 ∷ []

pub front_is : (entry : Content) (rows cols : ℕ) (lines : List RowLine) → front_with entry rows cols lines ≡ ended (heads entry rows cols) ++ ended (map line_text lines)
front_is entry rows cols lines = ended_both (heads entry rows cols) (map line_text lines)

pub text_is : (entry : Content) (rows cols : ℕ) (lines : List RowLine) → text_with entry rows cols lines ≡ front_with entry rows cols lines ++ last
text_is entry rows cols lines =
    ended_both (heads entry rows cols) (row_lines lines)
    ∙ (ap (λ (ls : List (List ℕ)). ended (heads entry rows cols) ++ ended ls) (rows_are lines)
    ∙ (ap (λ (l : List ℕ). ended (heads entry rows cols) ++ l) (ended_both (map line_text lines) (end_text ∷ []))
    ∙ (sym (append_assoc (ended (heads entry rows cols)) (ended (map line_text lines)) last)
    ∙ ap (λ (l : List ℕ). l ++ last) (sym (front_is entry rows cols lines)))))

pub text_length : (entry : Content) (rows cols : ℕ) (lines : List RowLine) → length (text_with entry rows cols lines) ≡ length (front_with entry rows cols lines) + 4
text_length entry rows cols lines = ap (λ (l : List ℕ). length l) (text_is entry rows cols lines) ∙ length-append (front_with entry rows cols lines) last

pub length_by_lines : (entry : Content) (rows cols : ℕ) (lines : List RowLine) → length (text_with entry rows cols lines) ≡ length (ended (heads entry rows cols)) + size_of lines + 4
length_by_lines entry rows cols lines =
    text_length entry rows cols lines
    ∙ ap (λ (n : ℕ). n + 4) (ap (λ (l : List ℕ). length l) (front_is entry rows cols lines) ∙ length-append (ended (heads entry rows cols)) (ended (map line_text lines)))

-- one more line at the end
pub front_end : (entry : Content) (rows cols : ℕ) (lines : List RowLine) (line : RowLine) → front_with entry rows cols (lines ++ line ∷ []) ≡ front_with entry rows cols lines ++ (line_text line ++ 10 ∷ [])
front_end entry rows cols lines line =
    front_is entry rows cols (lines ++ line ∷ [])
    ∙ (ap (λ (ls : List (List ℕ)). ended (heads entry rows cols) ++ ended ls) (map-append line_text lines (line ∷ []))
    ∙ (ap (λ (l : List ℕ). ended (heads entry rows cols) ++ l) (ended_both (map line_text lines) (line_text line ∷ []))
    ∙ (sym (append_assoc (ended (heads entry rows cols)) (ended (map line_text lines)) (line_text line ++ 10 ∷ []))
    ∙ ap (λ (l : List ℕ). l ++ (line_text line ++ 10 ∷ [])) (sym (front_is entry rows cols lines)))))

-- ---- no certificate

pub none_certified : (entry : Content) (rows cols : ℕ) (row : Row) (text : List ℕ) → PassesLimit entry rows cols row → IsCertificateOf entry rows cols text → ⊥
none_certified entry rows cols row text p c =
    let sub = no_longer rows cols p.lines (reverse c.lines) p.are.ordered (in_order rows cols [] (reverse c.lines) certificate.stands) there in
    let a = length_by_lines entry rows cols p.lines in
    let b = length_by_lines entry rows cols (reverse c.lines) in
    let s = ap (λ (l : List ℕ). length l) certificate.spelled.spelled in
    let few = certificate.few in
    let long = p.long in
    omega (arith, sub, a, b, s, few, long)
  where
    certificate : IsCertificate rows cols text (string_at entry acsc) (reverse c.lines)
    certificate = that_of_certificate rows cols text (string_at entry acsc) c.lines c.says

    own : (line : RowLine) → IsAmong c.lines line → IsLineOf entry rows cols line
    own line a = record { sent = c.sends line a; has = has_its_effect rows cols [] (reverse c.lines) line certificate.stands (reversed_has c.lines line a) }

    there : (line : RowLine) → IsAmong p.lines line → IsAmong (reverse c.lines) line
    there line a =
        let k = p.are.each line a in
        let h = c.complete line.row k.sent.range k.sent.checked in
        let same : h.line ≡ line = line_once entry rows cols h.line line (own h.line h.among) k h.of_row in
        reversed_has c.lines line (subst (λ (l : RowLine). IsAmong c.lines l) same h.among)
