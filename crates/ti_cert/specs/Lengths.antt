-- The lengths of the longest lines of a certificate.
use Rattle.std.specs.Prelude.{ℕ, ◌+◌, max, if◌then◌else◌, List, [], ◌∷◌, length, is_some, sum_by}
use Rattle.vt_term.specs.Color.{Black}
use Rattle.ti_rows.specs.declared.rows.Row.{Row}
use Rattle.ti_rows.specs.declared.rows.Row.TheVariants.{Cup, El, El1, Ed, Ech, Sgr, Sgr0, Setaf, Setab, Op, Smacs}
use Rattle.ti_rows.specs.declared.rows.Row.TheVariants.{Rmacs, Csr, Ind, Ri, Civis, Cnorm, Cvvis}
use Rattle.ti_rows.specs.Names.{order, no_attributes}
use Rattle.ti_conforms.specs.Certified.{singles}
use Rattle.ti_conforms.specs.Table.{Longest, or_nothing}
use Rattle.ti_cert.specs.Strings.{Strings, group_at, row_string}

-- the greatest length among these, 0 if there are none
abbrev pub greatest : List (List ℕ) → ℕ
greatest [] = 0
greatest (x ∷ xs) = max (length x) (greatest xs)

-- the length of the longest line of the row's capability
abbrev pub longest_line : Strings → Row → ℕ
longest_line s row = greatest (group_at s (order row))

-- `sgr0` and the strings of single attributes, one after another
abbrev pub singly : Strings → ℕ
singly s = length (or_nothing (row_string s Sgr0)) + sum_by (λ row. length (or_nothing (row_string s row))) singles

-- the longest change of attributes: one line of `sgr`, or else those strings
abbrev pub longest_change : Strings → ℕ
longest_change s =
    if is_some (row_string s (Sgr no_attributes))
    then max (longest_line s (Sgr no_attributes)) (longest_line s Sgr0)
    else singly s

unfoldable pub longest_in : Strings → Longest
longest_in s = record {
  cup = longest_line s (Cup 0 0);
  sgr = longest_change s;
  setaf = longest_line s (Setaf Black);
  setab = longest_line s (Setab Black);
  op = longest_line s Op;
  sets = max (longest_line s Smacs) (longest_line s Rmacs);
  erasure = max (max (longest_line s El) (longest_line s El1)) (max (longest_line s Ed) (longest_line s (Ech 1)));
  scroll = max (longest_line s (Csr 0 1)) (max (longest_line s Ind) (longest_line s Ri));
  civis = longest_line s Civis;
  cnorm = longest_line s Cnorm;
  cvvis = longest_line s Cvvis;
}
