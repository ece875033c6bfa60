-- A line of a certificate has no LF inside, and a line about a capability is neither that of alternate characters nor
-- the last one.
use Rattle.std.proofs.Common.{◌≡◌, ◌<◌, ◌==◌, ◌&&◌, ℕ, suc, Bool, true, false, not, if◌then◌else◌, List, [], ◌∷◌, ◌++◌, Option, Some, None, refl, sym, ap, ◌∙◌, arith}
use Rattle.std.specs.Prelude.{bytes_eq}
use Rattle.std.specs.Fmt.{decimal}
use Rattle.std.specs.List.{AllByRecursion, join_with_byte}
use Rattle.std.specs.Option.{option_map}
use Rattle.std.proofs.lemmas.Bool.{agree_below, agree_below_at, not-true, true≢false}
use Rattle.std.proofs.lemmas.List.Folds.{list_all-append}
use Rattle.std.proofs.lemmas.Slice.Eq.{bytes_eq-Decides}
use Rattle.hex.specs.Hex.{IsBytes}
use Rattle.vt_effects.specs.declared.effects.Effect.{Effect}
use Rattle.ti_rows.specs.declared.rows.Row.{Row}
use Rattle.ti_rows.specs.Names.{order, name_in_order, name_of, capabilities}
use Rattle.ti_rows.specs.Params.{params}
use Rattle.ti_rows.proofs.NameFacts.{orders_small}
use Rattle.ti_lines.specs.declared.row_lines.RowLine.{RowLine}
use Rattle.ti_lines.specs.Text.{line_end}
use Rattle.ti_lines.specs.Cut.{cut_at}
use Rattle.ti_lines.specs.Hex.{hex_text}
use Rattle.ti_lines.specs.EffectText.{words, joined, spelled, IsPlain}
use Rattle.ti_lines.specs.Heads.{acsc_word, end_text, is_end, size_text, acsc_text, IsAcscText}
use Rattle.ti_lines.specs.RowLines.{numbers_text, line_text, IsLine, IsTextOf}
use Rattle.ti_lines.proofs.CutFacts.{cut_front}
use Rattle.ti_lines.proofs.TextCuts.{lacks, AllLack}
use Rattle.ti_lines.proofs.Digits.{decimal_lacks}
use Rattle.ti_lines.proofs.Lacking.{both_lack, words_lack, hex_lacks, name_lacks}
use Rattle.ti_lines.proofs.LinesRead.{no_name}

either_none : (t m : Bool) (o : Option ℕ) → (not t && m) ≡ true → (m ≡ true → o ≡ None) → (if t then Some 0 else option_map suc o) ≡ None
either_none true m o h k = cc
either_none false m o h k = ap (option_map suc) (k h)

pub no_end : (xs : List ℕ) → lacks 10 xs ≡ true → line_end xs ≡ None
no_end [] h = refl
no_end (b ∷ xs) h = either_none (b == 10) (lacks 10 xs) (line_end xs) h (λ m. no_end xs m)

joined_lacks : (ws : List (List ℕ)) → AllLack 10 ws → lacks 10 (joined ws) ≡ true
joined_lacks [] h = refl
joined_lacks (w ∷ []) h = h.0
joined_lacks (w ∷ v ∷ ws) h = both_lack 10 w (32 ∷ join_with_byte 32 (v ∷ ws)) h.0 (joined_lacks (v ∷ ws) h.1)

effect_lacks : (e : Effect) → IsPlain e → lacks 10 (spelled e) ≡ true
unfolding spelled
effect_lacks e p = joined_lacks (words e) (words_lack 10 e (omega arith) p)

numbers_lack : (ns : List ℕ) → AllByRecursion (λ n. n < 65536) ns → lacks 10 (numbers_text ns) ≡ true
numbers_lack [] h = refl
numbers_lack (n ∷ ns) h = both_lack 10 (decimal n) (32 ∷ numbers_text ns) (decimal_lacks 10 n (omega arith) h.0) (numbers_lack ns h.1)

-- no capability has the word with which the line of alternate characters begins as its name
each_is_no_acsc : agree_below (λ n. not (bytes_eq (name_in_order n) acsc_word)) (λ _. true) capabilities ≡ true
unfolding name_in_order
each_is_no_acsc = refl

no_acsc : (row : Row) → name_of row ≡ acsc_word → ⊥
no_acsc row e =
    true≢false (sym ((bytes_eq-Decides (name_of row) acsc_word).1 e) ∙ not-true (bytes_eq (name_of row) acsc_word) (agree_below_at (λ n. not (bytes_eq (name_in_order n) acsc_word)) (λ _. true) capabilities (order row) each_is_no_acsc (orders_small row)))

-- ---- the lines

pub row_lacks : (line : RowLine) → IsLine line → lacks 10 (line_text line) ≡ true
row_lacks line is =
    both_lack 10 (name_of line.row) _ (name_lacks 10 line.row (omega arith))
    (both_lack 10 (numbers_text (params line.row)) _ (numbers_lack (params line.row) is.numbers) (both_lack 10 (hex_text line.bytes) (32 ∷ spelled line.effect) (hex_lacks 10 line.bytes (omega arith) is.bytes) (effect_lacks line.effect is.effect)))

pub acsc_lacks : (bytes : List ℕ) → IsBytes bytes → lacks 10 (acsc_text bytes) ≡ true
acsc_lacks bytes is = hex_lacks 10 bytes (omega arith) is

pub size_lacks : (rows cols : ℕ) → rows < 65536 → cols < 65536 → lacks 10 (size_text rows cols) ≡ true
size_lacks rows cols r c = both_lack 10 (decimal rows) (32 ∷ decimal cols) (decimal_lacks 10 rows (omega arith) r) (decimal_lacks 10 cols (omega arith) c)

-- a text with a space inside isn't the last line
has_space : (front rest : List ℕ) → lacks 32 (front ++ 32 ∷ rest) ≡ false
has_space front rest = list_all-append (λ b. not (b == 32)) front (32 ∷ rest) ∙ never (lacks 32 front)
  where
    never : (t : Bool) → (t && false) ≡ false
    never true = refl
    never false = refl

not_last : (text : List ℕ) → lacks 32 text ≡ false → is_end text ≡ false
not_last text h = by_end (is_end text) refl
  where
    by_end : (t : Bool) → is_end text ≡ t → t ≡ false
    by_end true e = absurd (true≢false (sym (ap (lacks 32) ((bytes_eq-Decides text end_text).0 e)) ∙ h))
    by_end false e = refl

pub not_end : (line : RowLine) → is_end (line_text line) ≡ false
not_end line = not_last (line_text line) (has_space (name_of line.row) _)

pub no_pairs : (text : List ℕ) (line : RowLine) → IsTextOf text line → (bytes : List ℕ) → IsAcscText text bytes → ⊥
no_pairs text line is bytes pairs =
    no_name text acsc_word (hex_text bytes) line (ap (cut_at 32) (sym pairs.spelled) ∙ cut_front 32 acsc_word (hex_text bytes) refl) (λ row e. no_acsc row e) is

first_of : List ℕ → ℕ
first_of [] = 0
first_of (b ∷ bytes) = b

pub end_no_pairs : (bytes : List ℕ) → IsAcscText end_text bytes → ⊥
unfolding first_of
end_no_pairs bytes is = let wrong : 97 ≡ 101 = ap first_of is.spelled in omega (arith, wrong)
