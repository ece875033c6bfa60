-- A line's text, read and written.
use Rattle.std.proofs.Common.{◌≡◌, ◌≢◌, ℕ, zero, suc, ◌<◌, List, [], ◌∷◌, ◌++◌, length, Option, Some, None, IfSome, Result, Ok, Err, IfOk, refl, sym, ap, ◌∙◌, subst, arith, inl, inr, append_assoc, append-nil}
use Rattle.std.specs.Fmt.{decimal}
use Rattle.std.specs.List.{AllByRecursion}
use Rattle.std.specs.Option.{option_map, option_and_then}
use Rattle.std.specs.Cmp.Lexicographic.{slice_cmp}
use Rattle.std.specs.Ordering.{nat_cmp, is_eq}
use Rattle.std.specs.declared.cmp.Ordering.TheVariants.{Less}
use Rattle.std.proofs.lemmas.Bool.{cases_order, true≢false}
use Rattle.std.proofs.lemmas.Map.Text.{is_eq-slice_cmp}
use Rattle.std.proofs.lemmas.Slice.Eq.{bytes_eq-Decides}
use Rattle.std.proofs.lemmas.Option.{same_Some, none-some, option_and_then_some}
use Rattle.hex.specs.Hex.{IsBytes}
use Rattle.ti_lines.specs.EffectText.{spelled, IsPlain}
use Rattle.ti_lines.specs.EffectReader.{number_at, effect_in}
use Rattle.ti_lines.proofs.Digits.{number_reads, number_written, IsNumber, decimal_lacks}
use Rattle.ti_lines.proofs.EffectTexts.{reads_spelled, reads_plain, spelled_reads}
use Rattle.vt_effects.specs.declared.effects.Effect.{Effect}
use Rattle.ti_rows.specs.declared.rows.Row.{Row}
use Rattle.ti_rows.specs.Names.{order, name_of, name_in_order}
use Rattle.ti_rows.specs.Params.{params, with_params, HasParams}
use Rattle.ti_rows.proofs.NameFacts.{names_rise, orders_small}
use Rattle.ti_rows.proofs.Readers.{finds_params, params_found, same_count}
use Rattle.ti_lines.specs.declared.row_lines.RowLine.{RowLine}
use Rattle.ti_lines.specs.Cut.{cut_at}
use Rattle.ti_lines.specs.Hex.{hex_text, hex_in}
use Rattle.ti_lines.specs.RowLines.{numbers_text, line_text, IsLine, IsTextOf, numbers_before, row_before, line_behind, line_of}
use Rattle.ti_lines.proofs.CutFacts.{cut_front, cut_is, IsCut}
use Rattle.ti_lines.proofs.Hex.{hex_written, hex_read, IsHex}
use Rattle.ti_lines.proofs.Lacking.{hex_lacks, name_lacks}

-- the value after `option_map`
pub mapped : {A B : Type 0} (f : A → B) (o : Option A) (z : B) → option_map f o ≡ Some z → (y : A) × (o ≡ Some y) × (f y ≡ z)
mapped f None z h = absurd (none-some z h)
mapped f (Some y) z h = (y, refl, same_Some (f y) z h)

-- numbers
abbrev Small : List ℕ → Type 0
Small ns = AllByRecursion (λ n. n < 65536) ns

record NumbersIn (count : ℕ) (done text all rest : List ℕ) : Type 0 where
  ns : List ℕ
  pushed : done ++ ns ≡ all
  many : length ns ≡ count
  spelled_so : numbers_text ns ++ rest ≡ text
  small : Small ns

one_more : (count : ℕ) (done text word behind all rest : List ℕ) (n : ℕ) → IsCut 32 text word behind → IsNumber word n → NumbersIn count (done ++ n ∷ []) behind all rest → NumbersIn (suc count) done text all rest
one_more count done text word behind all rest n c d h = record {
  ns = n ∷ h.ns;
  pushed = sym append_assoc_at ∙ h.pushed;
  many = ap suc h.many;
  spelled_so = append_two ∙ ap (λ (t : List ℕ). decimal n ++ 32 ∷ t) h.spelled_so ∙ ap (λ (w : List ℕ). w ++ 32 ∷ behind) (sym d.text) ∙ sym c.parts;
  small = (d.small, h.small);
}
  where
    append_assoc_at : (done ++ n ∷ []) ++ h.ns ≡ done ++ n ∷ h.ns
    append_assoc_at = append_assoc done (n ∷ []) h.ns

    append_two : (decimal n ++ 32 ∷ numbers_text h.ns) ++ rest ≡ decimal n ++ 32 ∷ (numbers_text h.ns ++ rest)
    append_two = append_assoc (decimal n) (32 ∷ numbers_text h.ns) rest

numbers_in : (count : ℕ) (done text all rest : List ℕ) → numbers_before count done text ≡ Some (all, rest) → NumbersIn count done text all rest
numbers_in zero done text all rest h =
    let e = same_Some (done, text) (all, rest) h in
    record { ns = []; pushed = append-nil done ∙ ap (λ (p : List ℕ × List ℕ). p.0) e; many = refl; spelled_so = sym (ap (λ (p : List ℕ × List ℕ). p.1) e); small = tt }
numbers_in (suc count) done text all rest h =
    option_and_then_some (λ p. option_and_then (λ n. numbers_before count (done ++ n ∷ []) p.1) (number_at p.0)) (cut_at 32 text) (all, rest) h
    (λ p cut_so left. option_and_then_some (λ n. numbers_before count (done ++ n ∷ []) p.1) (number_at p.0) (all, rest) left
    (λ n number_so more. one_more count done text p.0 p.1 all rest n (cut_is 32 text p.0 p.1 cut_so) (number_written p.0 n number_so) (numbers_in count (done ++ n ∷ []) p.1 all rest more)))

numbers_read : (ns done rest : List ℕ) → Small ns → numbers_before (length ns) done (numbers_text ns ++ rest) ≡ Some (done ++ ns, rest)
numbers_read [] done rest h = ap (λ (d : List ℕ). Some (d, rest)) (sym (append-nil done))
numbers_read (n ∷ ns) done rest h =
    let cut_so : cut_at 32 ((decimal n ++ 32 ∷ numbers_text ns) ++ rest) ≡ Some (decimal n, numbers_text ns ++ rest) =
    ap (λ (t : List ℕ). cut_at 32 t) (append_assoc (decimal n) (32 ∷ numbers_text ns) rest) ∙ cut_front 32 (decimal n) (numbers_text ns ++ rest) (decimal_lacks 32 n (omega arith) h.0) in
    ap (λ (o : Option (List ℕ × List ℕ)). option_and_then (λ p. option_and_then (λ m. numbers_before (length ns) (done ++ m ∷ []) p.1) (number_at p.0)) o) cut_so
    ∙ ap (λ (o : Option ℕ). option_and_then (λ m. numbers_before (length ns) (done ++ m ∷ []) (numbers_text ns ++ rest)) o) (number_reads n h.0)
    ∙ numbers_read ns (done ++ n ∷ []) rest h.1
    ∙ ap (λ (d : List ℕ). Some (d, rest)) (append_assoc done (n ∷ []) ns)

-- the bytes and the effect
abbrev behind_text : List ℕ → Effect → List ℕ
behind_text bytes e = hex_text bytes ++ 32 ∷ spelled e

abbrev line_with : Row → List ℕ → Effect → RowLine
line_with row bytes e = record { row = row; bytes = bytes; effect = e }

record Behind (row : Row) (text : List ℕ) (line : RowLine) : Type 0 where
  row_is : line.row ≡ row
  text_is : behind_text line.bytes line.effect ≡ text
  bytes_are : IsBytes line.bytes
  plain : IsPlain line.effect

behind_made : (row : Row) (text word rest bytes : List ℕ) (e : Effect) (line : RowLine) → line_with row bytes e ≡ line → IsCut 32 text word rest → IsHex word bytes → spelled e ≡ rest → IsPlain e → Behind row text line
behind_made row text word rest bytes e line same c d s p = subst (λ (l : RowLine). Behind row text l) same (record {
  row_is = refl;
  text_is = ap (λ (w : List ℕ). w ++ 32 ∷ spelled e) d.spelled ∙ ap (λ (r : List ℕ). word ++ 32 ∷ r) s ∙ sym c.parts;
  bytes_are = d.bytes_are;
  plain = p;
})

behind_written : (row : Row) (text : List ℕ) (line : RowLine) → line_behind row text ≡ Some line → Behind row text line
behind_written row text line h =
    option_and_then_some (λ p. option_and_then (λ effect. option_map (λ bytes. record { row = row; bytes = bytes; effect = effect }) (hex_in p.0)) (effect_in p.1)) (cut_at 32 text) line h
    (λ p cut_so left. option_and_then_some (λ effect. option_map (λ bytes. record { row = row; bytes = bytes; effect = effect }) (hex_in p.0)) (effect_in p.1) line left
    (λ e effect_so more.
    let m = mapped (λ (bytes : List ℕ). line_with row bytes e) (hex_in p.0) line more in
    behind_made row text p.0 p.1 m.0 e line m.2 (cut_is 32 text p.0 p.1 cut_so) (hex_written p.0 m.0 m.1) (reads_spelled p.1 e effect_so) (reads_plain p.1 e effect_so)))

behind_read : (row : Row) (bytes : List ℕ) (e : Effect) → IsBytes bytes → IsPlain e → line_behind row (behind_text bytes e) ≡ Some (line_with row bytes e)
behind_read row bytes e h p =
    ap (λ (o : Option (List ℕ × List ℕ)). option_and_then (λ q. option_and_then (λ effect. option_map (λ b. record { row = row; bytes = b; effect = effect }) (hex_in q.0)) (effect_in q.1)) o) (cut_front 32 (hex_text bytes) (spelled e) (hex_lacks 32 bytes (omega arith) h))
    ∙ ap (λ (o : Option Effect). option_and_then (λ effect. option_map (λ b. record { row = row; bytes = b; effect = effect }) (hex_in (hex_text bytes))) o) (spelled_reads e (spelled e) p refl)
    ∙ ap (λ (o : Option (List ℕ)). option_map (λ b. record { row = row; bytes = b; effect = e }) o) (hex_read bytes h)

-- the whole line after its name
abbrev rest_text : RowLine → List ℕ
rest_text line = numbers_text (params line.row) ++ behind_text line.bytes line.effect

record RestOf (first : Row) (text : List ℕ) (line : RowLine) : Type 0 where
  same_order : order line.row ≡ order first
  text_is : rest_text line ≡ text
  line_is : IsLine line

rest_made : (first row : Row) (text all rest : List ℕ) (line : RowLine) → NumbersIn (length (params first)) [] text all rest → HasParams first row all → Behind row rest line → RestOf first text line
rest_made first row text all rest line n p b =
    let has : params line.row ≡ all = ap params b.row_is ∙ p.has in
    record {
      same_order = ap order b.row_is ∙ p.same_order;
      text_is = ap (λ (ns : List ℕ). numbers_text ns ++ behind_text line.bytes line.effect) (has ∙ sym n.pushed) ∙ ap (λ (t : List ℕ). numbers_text n.ns ++ t) b.text_is ∙ n.spelled_so;
      line_is = record { numbers = subst Small (n.pushed ∙ sym has) n.small; bytes = b.bytes_are; effect = b.plain };
    }

rest_written : (first : Row) (text : List ℕ) (line : RowLine) → line_of first text ≡ Some line → RestOf first text line
rest_written first text line h =
    option_and_then_some (λ p. line_behind p.0 p.1) (row_before first text) line h
    (λ p row_so behind. option_and_then_some (λ q. option_map (λ row. (row, q.1)) (with_params first q.0)) (numbers_before (length (params first)) [] text) p row_so
    (λ q numbers_so with_so.
    let m = mapped (λ (row : Row). (row, q.1)) (with_params first q.0) p with_so in
    rest_made first m.0 text q.0 q.1 line (numbers_in (length (params first)) [] text q.0 q.1 numbers_so) (finds_params first m.0 q.0 m.1)
    (behind_written m.0 q.1 line (ap (λ (x : Row × List ℕ). line_behind x.0 x.1) m.2 ∙ behind))))

rest_read : (first : Row) (line : RowLine) → IsLine line → order first ≡ order line.row → line_of first (rest_text line) ≡ Some line
rest_read first line h same =
    let count : length (params first) ≡ length (params line.row) = same_count first line.row same in
    let numbers_so : numbers_before (length (params first)) [] (rest_text line) ≡ Some (params line.row, behind_text line.bytes line.effect) =
    ap (λ (n : ℕ). numbers_before n [] (rest_text line)) count ∙ numbers_read (params line.row) [] (behind_text line.bytes line.effect) h.numbers in
    let row_so : row_before first (rest_text line) ≡ Some (line.row, behind_text line.bytes line.effect) =
    ap (λ (o : Option (List ℕ × List ℕ)). option_and_then (λ q. option_map (λ row. (row, q.1)) (with_params first q.0)) o) numbers_so
    ∙ ap (λ (o : Option Row). option_map (λ row. (row, behind_text line.bytes line.effect)) o) (params_found first line.row same) in
    ap (λ (o : Option (Row × List ℕ)). option_and_then (λ p. line_behind p.0 p.1) o) row_so ∙ behind_read line.row line.bytes line.effect h.bytes h.effect

-- names differ
not_itself : (xs ys : List ℕ) → slice_cmp nat_cmp xs ys ≡ Less → xs ≡ ys → ⊥
not_itself xs ys h e = true≢false (sym ((bytes_eq-Decides xs ys).1 e) ∙ sym (is_eq-slice_cmp xs ys) ∙ ap is_eq h)

pub same_name : (a b : Row) → name_of a ≡ name_of b → order a ≡ order b
same_name a b h = elim (cases_order (order a) (order b)) [
  | inl e ↦ e
  | inr (inl lt) ↦ absurd (not_itself (name_of a) (name_of b) (names_rise (order a) (order b) lt (orders_small b)) h)
  | inr (inr lt) ↦ absurd (not_itself (name_of b) (name_of a) (names_rise (order b) (order a) lt (orders_small a)) (sym h))
]

-- how a line's text is cut
cut_line : (line : RowLine) → cut_at 32 (line_text line) ≡ Some (name_of line.row, rest_text line)
cut_line line = cut_front 32 (name_of line.row) (rest_text line) (name_lacks 32 line.row (omega arith))

pub no_line : (text : List ℕ) (line : RowLine) → cut_at 32 text ≡ None → IsTextOf text line → ⊥
no_line text line h t = none-some _ (sym h ∙ ap (λ (x : List ℕ). cut_at 32 x) (sym t.spelled) ∙ cut_line line)

record SameCut (name rest : List ℕ) (line : RowLine) : Type 0 where
  name_is : name_of line.row ≡ name
  rest_is : rest_text line ≡ rest

same_cut : (text name rest : List ℕ) (line : RowLine) → cut_at 32 text ≡ Some (name, rest) → IsTextOf text line → SameCut name rest line
same_cut text name rest line h t =
    let e = same_Some (name_of line.row, rest_text line) (name, rest) (sym (cut_line line) ∙ ap (λ (x : List ℕ). cut_at 32 x) t.spelled ∙ h) in
    record { name_is = ap (λ (p : List ℕ × List ℕ). p.0) e; rest_is = ap (λ (p : List ℕ × List ℕ). p.1) e }

pub no_name : (text name rest : List ℕ) (line : RowLine) → cut_at 32 text ≡ Some (name, rest) → ((row : Row) → name_of row ≢ name) → IsTextOf text line → ⊥
no_name text name rest line h none t = none line.row (same_cut text name rest line h t).name_is

pub line_read : (text name rest : List ℕ) (first : Row) (line : RowLine) → cut_at 32 text ≡ Some (name, rest) → name_of first ≡ name → IsTextOf text line → line_of first rest ≡ Some line
line_read text name rest first line h named t =
    let c = same_cut text name rest line h t in
    ap (λ (r : List ℕ). line_of first r) (sym c.rest_is) ∙ rest_read first line t.line_is (same_name first line.row (named ∙ sym c.name_is))

pub line_written : (text name rest : List ℕ) (first : Row) (line : RowLine) → cut_at 32 text ≡ Some (name, rest) → name_of first ≡ name → line_of first rest ≡ Some line → IsTextOf text line
line_written text name rest first line h named so =
    let r = rest_written first rest line so in
    record {
      line_is = r.line_is;
      spelled = ap (λ (n : List ℕ). n ++ 32 ∷ rest_text line) (ap name_in_order r.same_order ∙ named) ∙ ap (λ (t : List ℕ). name ++ 32 ∷ t) r.text_is ∙ sym (cut_is 32 text name rest h).parts;
    }

-- the answer of a reader to a line's text after its name
some_written : (text name rest : List ℕ) (first : Row) (found : Option RowLine) → cut_at 32 text ≡ Some (name, rest) → name_of first ≡ name → found ≡ line_of first rest → IfSome found (λ line. IsTextOf text line)
some_written text name rest first None h named e = tt
some_written text name rest first (Some line) h named e = line_written text name rest first line h named (sym e)

pub found_written : {E : Type 0} (text name rest : List ℕ) (first : Row) (r : Result (Option RowLine) E) → cut_at 32 text ≡ Some (name, rest) → name_of first ≡ name → IfOk r (λ found. found ≡ line_of first rest)
    → IfOk r (λ found. IfSome found (λ line. IsTextOf text line))
found_written text name rest first (Ok found) h named e = some_written text name rest first found h named e
found_written text name rest first (Err x) h named e = tt

pub found_each : {E : Type 0} (text name rest : List ℕ) (first : Row) (r : Result (Option RowLine) E) → cut_at 32 text ≡ Some (name, rest) → name_of first ≡ name → IfOk r (λ found. found ≡ line_of first rest)
    → IfOk r (λ found. (line : RowLine) → IsTextOf text line → found ≡ Some line)
found_each text name rest first (Ok found) h named e = λ line t. e ∙ line_read text name rest first line h named t
found_each text name rest first (Err x) h named e = tt

pub one_line : (text : List ℕ) (a b : RowLine) → IsTextOf text a → IsTextOf text b → a ≡ b
one_line text a b h k =
    let cut_so : cut_at 32 text ≡ Some (name_of a.row, rest_text a) = ap (λ (x : List ℕ). cut_at 32 x) (sym h.spelled) ∙ cut_line a in
    same_Some a b (sym (line_read text (name_of a.row) (rest_text a) a.row a cut_so refl h) ∙ line_read text (name_of a.row) (rest_text a) a.row b cut_so refl k)
