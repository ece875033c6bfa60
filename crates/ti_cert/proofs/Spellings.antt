-- Whatever was judged can be written: numbers of 16 bits, bytes, and effects in their one form.
use Rattle.std.proofs.Common.{◌<◌, ℕ, Bool, true, false, List, [], ◌∷◌, ◌++◌, Option, None, Some, inl, inr, sym, subst, arith}
use Rattle.std.specs.List.{AllByRecursion}
use Rattle.vt_term.specs.Size.{IsSize}
use Rattle.vt_term.specs.Text.{IsParameter, IsIntermediate, IsSequence, IsSingle, IsToken, Splits}
use Rattle.ti_caps.specs.Entry.{HasBytes, string_in}
use Rattle.ti_caps.specs.declared.value.Value.{Value}
use Rattle.ti_caps.specs.declared.value.Value.TheVariants.{Flag, Number, String}
use Rattle.ti_rows.specs.declared.rows.Row.{Row}
use Rattle.ti_rows.specs.declared.rows.Row.TheVariants.{Cup, Hpa, Vpa, Cub, Cuf, Cuu, Cud, Ech, Sgr, Setaf, Setab, Csr}
use Rattle.ti_rows.specs.Asked.{start_of}
use Rattle.ti_rows.specs.Bits.{bit}
use Rattle.ti_rows.specs.Lists.{IsInRange}
use Rattle.ti_rows.specs.Params.{params}
use Rattle.ti_rows.proofs.Readers.{color_small}
use Rattle.ti_lines.specs.declared.row_lines.RowLine.{RowLine}
use Rattle.ti_lines.specs.RowLines.{IsLine}
use Rattle.ti_lines.specs.Texts.{IsAcsc}
use Rattle.ti_lines.proofs.Recorded.{recorded_plain}
use Rattle.ti_cert.specs.Certificates.{HasEffect}
use Rattle.ti_cert.proofs.BasicLines.{is_bytes}

-- parameters have 16 bits
bit_small : (b : Bool) → bit b < 65536
bit_small true = omega arith
bit_small false = omega arith

numbers_small : (rows cols : ℕ) (row : Row) → IsSize rows cols → IsInRange rows cols row → AllByRecursion (λ n. n < 65536) (params row)
numbers_small rows cols (Cup row col) size range = (omega (arith, range.0, size.1), (omega (arith, range.1, size.3), tt))
numbers_small rows cols (Hpa col) size range = (omega (arith, range, size.3), tt)
numbers_small rows cols (Vpa row) size range = (omega (arith, range, size.1), tt)
numbers_small rows cols (Cub n) size range = (omega (arith, range.1, size.3), tt)
numbers_small rows cols (Cuf n) size range = (omega (arith, range.1, size.3), tt)
numbers_small rows cols (Cuu n) size range = (omega (arith, range.1, size.1), tt)
numbers_small rows cols (Cud n) size range = (omega (arith, range.1, size.1), tt)
numbers_small rows cols (Ech n) size range = (omega (arith, range.1, size.3), tt)
numbers_small rows cols (Sgr a) size range = (bit_small a.standout, (bit_small a.underline, (bit_small a.reverse, (bit_small a.blink, (bit_small a.dim, (bit_small a.bold, (bit_small a.invisible, (omega arith, (omega arith, tt)))))))))
numbers_small rows cols (Setaf c) size range = (omega (arith, color_small c), tt)
numbers_small rows cols (Setab c) size range = (omega (arith, color_small c), tt)
numbers_small rows cols (Csr top bottom) size range = (omega (arith, range.0, range.1, size.1), (omega (arith, range.1, size.1), tt))
numbers_small rows cols _ size range = tt

row_min_small : (rows cols : ℕ) (row : Row) → IsSize rows cols → IsInRange rows cols row → (start_of rows cols row).row_min < 65536
row_min_small rows cols (Cuu n) size range = omega (arith, range.1, size.1)
row_min_small rows cols _ size range = omega arith

col_min_small : (rows cols : ℕ) (row : Row) → IsSize rows cols → IsInRange rows cols row → (start_of rows cols row).col_min < 65536
col_min_small rows cols (Cub n) size range = omega (arith, range.1, size.3)
col_min_small rows cols _ size range = omega arith

-- each number is a byte, as in a text that splits into tokens
abbrev Small : List ℕ → Type 0
Small xs = AllByRecursion (λ b. b < 256) xs

both_small : (xs ys : List ℕ) → Small xs → Small ys → Small (xs ++ ys)
both_small [] ys p q = q
both_small (x ∷ xs) ys p q = (p.0, both_small xs ys p.1 q)

front_small : (xs ys : List ℕ) → Small (xs ++ ys) → Small xs
front_small [] ys p = tt
front_small (x ∷ xs) ys p = (p.0, front_small xs ys p.1)

parameters_small : (xs : List ℕ) → AllByRecursion IsParameter xs → Small xs
parameters_small [] p = tt
parameters_small (x ∷ xs) p = (omega (arith, p.0.1), parameters_small xs p.1)

intermediates_small : (xs : List ℕ) → AllByRecursion IsIntermediate xs → Small xs
intermediates_small [] p = tt
intermediates_small (x ∷ xs) p = (omega (arith, p.0.1), intermediates_small xs p.1)

sequence_small : (bytes : List ℕ) → IsSequence bytes → Small bytes
sequence_small bytes (inl c) =
    let behind = both_small c.intermediates (c.final ∷ []) (intermediates_small c.intermediates c.each_intermediate) (omega (arith, c.ends.1), tt) in
    subst Small (sym c.spelled) (omega arith, (omega arith, both_small c.parameters (c.intermediates ++ c.final ∷ []) (parameters_small c.parameters c.each_parameter) behind))
sequence_small bytes (inr e) =
    subst Small (sym e.spelled) (omega arith, both_small e.intermediates (e.final ∷ []) (intermediates_small e.intermediates e.each_intermediate) (omega (arith, e.ends.1), tt))

single_small : (bytes : List ℕ) → IsSingle bytes → Small bytes
single_small [] h = absurd h
single_small (b ∷ []) (inl p) = (omega (arith, p.1), tt)
single_small (b ∷ []) (inr (inl c)) = (omega (arith, c.0), tt)
single_small (b ∷ []) (inr (inr e)) = (omega (arith, e), tt)
single_small (b ∷ c ∷ bytes) h = absurd h

token_small : (bytes behind : List ℕ) → IsToken bytes behind → Small bytes
token_small bytes behind (inl (inl s)) = single_small bytes s
token_small bytes behind (inl (inr s)) = sequence_small bytes s
token_small bytes behind (inr d) = front_small bytes d.fits.more (sequence_small (bytes ++ d.fits.more) d.fits.whole)

split_small : (text : List ℕ) (tokens : List (List ℕ)) → Splits text tokens [] → Small text
split_small text [] s = subst Small (sym s.0) tt
split_small text (token ∷ tokens) s = subst Small (sym s.1) (both_small token s.0 (token_small token s.0 s.2) (split_small s.0 tokens s.3))

-- a line in range whose bytes have its effect can be written
pub line_is : (rows cols : ℕ) (line : RowLine) → IsSize rows cols → IsInRange rows cols line.row → HasEffect rows cols line line.effect → IsLine line
line_is rows cols line size range has = record {
  numbers = numbers_small rows cols line.row size range;
  bytes = is_bytes line.bytes (split_small line.bytes has.tokens has.splits);
  effect = recorded_plain rows cols (start_of rows cols line.row) has.tokens line.effect size (row_min_small rows cols line.row size range) (col_min_small rows cols line.row size range) has.recorded;
}

-- the pairs of alternate characters can be written
pub pairs_are : (value : Option Value) → HasBytes value → IsAcsc (string_in value)
pairs_are None h = tt
pairs_are (Some Flag) h = tt
pairs_are (Some (Number n)) h = tt
pairs_are (Some (String bytes)) h = is_bytes bytes h
