-- The first line, and the line of alternate characters.
use Rattle.std.proofs.Common.{◌≡◌, ℕ, ◌<◌, Bool, true, false, if◌then◌else◌, List, ◌∷◌, ◌++◌, Option, Some, None, Result, Ok, Err, IfOk, IfSome, refl, sym, ap, ◌∙◌, subst, arith}
use Rattle.std.specs.Fmt.{decimal}
use Rattle.std.specs.Option.{option_map, option_and_then}
use Rattle.std.specs.Prelude.{bytes_eq}
use Rattle.std.proofs.lemmas.Slice.Eq.{bytes_eq-Decides}
use Rattle.std.proofs.lemmas.Option.{same_Some, none-some, option_and_then_some}
use Rattle.ti_lines.specs.EffectReader.{number_at}
use Rattle.ti_lines.proofs.Digits.{number_reads, number_written, IsNumber, decimal_lacks}
use Rattle.ti_lines.specs.Cut.{cut_at}
use Rattle.ti_lines.specs.Hex.{hex_text, hex_in}
use Rattle.ti_lines.specs.Heads.{first_word, version, acsc_word, behind_word, acsc_in, two_numbers_in, size_in, IsSizeText, IsAcscText}
use Rattle.ti_lines.proofs.TextCuts.{lacks}
use Rattle.ti_lines.proofs.CutFacts.{cut_front, cut_is}
use Rattle.ti_lines.proofs.Hex.{hex_written, hex_read, IsHex}
use Rattle.ti_lines.proofs.LinesRead.{mapped}

if_there : (b : Bool) (x y : List ℕ) → (if b then Some x else None) ≡ Some y → (b ≡ true) × (x ≡ y)
if_there true x y h = (refl, same_Some x y h)
if_there false x y h = absurd (none-some y h)

word_written : (word text rest : List ℕ) → behind_word word text ≡ Some rest → word ++ 32 ∷ rest ≡ text
word_written word text rest h = option_and_then_some (λ p. if bytes_eq p.0 word then Some p.1 else None) (cut_at 32 text) rest h
    (λ p cut_so left. let b = if_there (bytes_eq p.0 word) p.1 rest left in
    ap (λ (w : List ℕ). w ++ 32 ∷ rest) (sym ((bytes_eq-Decides p.0 word).0 b.0)) ∙ ap (λ (r : List ℕ). p.0 ++ 32 ∷ r) (sym b.1) ∙ sym (cut_is 32 text p.0 p.1 cut_so).parts)

word_read : (word rest : List ℕ) → lacks 32 word ≡ true → behind_word word (word ++ 32 ∷ rest) ≡ Some rest
word_read word rest h =
    ap (λ (o : Option (List ℕ × List ℕ)). option_and_then (λ p. if bytes_eq p.0 word then Some p.1 else None) o) (cut_front 32 word rest h)
    ∙ ap (λ (b : Bool). if b then Some rest else None) ((bytes_eq-Decides word word).1 refl)

acsc_written : (text bytes : List ℕ) → acsc_in text ≡ Some bytes → IsAcscText text bytes
acsc_written text bytes h = option_and_then_some (λ rest. hex_in rest) (behind_word acsc_word text) bytes h
    (λ rest word_so hex_so. let x : IsHex rest bytes = hex_written rest bytes hex_so in
    record { bytes_are = x.bytes_are; spelled = ap (λ (r : List ℕ). acsc_word ++ 32 ∷ r) x.spelled ∙ word_written acsc_word text rest word_so })

acsc_read : (text bytes : List ℕ) → IsAcscText text bytes → acsc_in text ≡ Some bytes
acsc_read text bytes h = ap acsc_in (sym h.spelled) ∙ ap (λ (o : Option (List ℕ)). option_and_then (λ rest. hex_in rest) o) (word_read acsc_word (hex_text bytes) refl) ∙ hex_read bytes h.bytes_are

-- rows and columns
two_written : (text : List ℕ) (p : ℕ × ℕ) → two_numbers_in text ≡ Some p → (p.0 < 65536) × (p.1 < 65536) × (decimal p.0 ++ 32 ∷ decimal p.1 ≡ text)
two_written text p h = option_and_then_some (λ q. option_and_then (λ n. option_map (λ m. (n, m)) (number_at q.1)) (number_at q.0)) (cut_at 32 text) p h
    (λ q cut_so left. option_and_then_some (λ n. option_map (λ m. (n, m)) (number_at q.1)) (number_at q.0) p left
    (λ n first_so more.
    let m = mapped (λ (k : ℕ). (n, k)) (number_at q.1) p more in
    let a : IsNumber q.0 n = number_written q.0 n first_so in
    let b : IsNumber q.1 m.0 = number_written q.1 m.0 m.1 in
    subst (λ (x : ℕ × ℕ). (x.0 < 65536) × (x.1 < 65536) × (decimal x.0 ++ 32 ∷ decimal x.1 ≡ text)) m.2
    (a.small, b.small, ap (λ (w : List ℕ). w ++ 32 ∷ decimal m.0) (sym a.text) ∙ ap (λ (w : List ℕ). q.0 ++ 32 ∷ w) (sym b.text) ∙ sym (cut_is 32 text q.0 q.1 cut_so).parts)))

pub size_written : (text : List ℕ) (p : ℕ × ℕ) → size_in text ≡ Some p → IsSizeText text p.0 p.1
size_written text p h = option_and_then_some (λ rest. option_and_then (λ numbers. two_numbers_in numbers) (behind_word version rest)) (behind_word first_word text) p h
    (λ rest first_so left. option_and_then_some (λ numbers. two_numbers_in numbers) (behind_word version rest) p left
    (λ numbers second_so more.
    let t = two_written numbers p more in
    record { rows_fit = t.0; cols_fit = t.1; spelled = ap (λ (x : List ℕ). first_word ++ 32 ∷ (version ++ 32 ∷ x)) t.2 ∙ ap (λ (x : List ℕ). first_word ++ 32 ∷ x) (word_written version rest numbers second_so) ∙ word_written first_word text rest first_so }))

pub size_read : (text : List ℕ) (rows cols : ℕ) → IsSizeText text rows cols → size_in text ≡ Some (rows, cols)
size_read text rows cols h =
    ap size_in (sym h.spelled)
    ∙ ap (λ (o : Option (List ℕ)). option_and_then (λ rest. option_and_then (λ numbers. two_numbers_in numbers) (behind_word version rest)) o) (word_read first_word (version ++ 32 ∷ (decimal rows ++ 32 ∷ decimal cols)) refl)
    ∙ ap (λ (o : Option (List ℕ)). option_and_then (λ numbers. two_numbers_in numbers) o) (word_read version (decimal rows ++ 32 ∷ decimal cols) refl)
    ∙ ap (λ (o : Option (List ℕ × List ℕ)). option_and_then (λ q. option_and_then (λ n. option_map (λ m. (n, m)) (number_at q.1)) (number_at q.0)) o) (cut_front 32 (decimal rows) (decimal cols) (decimal_lacks 32 rows (omega arith) h.rows_fit))
    ∙ ap (λ (o : Option ℕ). option_and_then (λ n. option_map (λ m. (n, m)) (number_at (decimal cols))) o) (number_reads rows h.rows_fit)
    ∙ ap (λ (o : Option ℕ). option_map (λ m. (rows, m)) o) (number_reads cols h.cols_fit)

-- the answers of the readers
pub size_found : (text : List ℕ) (o : Option (ℕ × ℕ)) → o ≡ size_in text → IfSome o (λ p. IsSizeText text p.0 p.1)
size_found text None h = tt
size_found text (Some p) h = size_written text p (sym h)

some_acsc : {B : Type 0} (view : B → List ℕ) (text : List ℕ) (o : Option B) → option_map view o ≡ acsc_in text → IfSome o (λ b. IsAcscText text (view b))
some_acsc view text None h = tt
some_acsc view text (Some b) h = acsc_written text (view b) (sym h)

pub acsc_found : {B E : Type 0} (view : B → List ℕ) (text : List ℕ) (r : Result (Option B) E) → IfOk r (λ found. option_map view found ≡ acsc_in text) → IfOk r (λ found. IfSome found (λ b. IsAcscText text (view b)))
acsc_found view text (Ok found) h = some_acsc view text found h
acsc_found view text (Err e) h = tt

pub acsc_each : {B E : Type 0} (view : B → List ℕ) (text : List ℕ) (r : Result (Option B) E) → IfOk r (λ found. option_map view found ≡ acsc_in text)
    → IfOk r (λ found. (bytes : List ℕ) → IsAcscText text bytes → option_map view found ≡ Some bytes)
acsc_each view text (Ok found) h = λ bytes t. h ∙ acsc_read text bytes t
acsc_each view text (Err e) h = tt
