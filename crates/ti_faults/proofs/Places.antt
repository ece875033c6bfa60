-- The row of a capability, found by trying all places; and no two places have one capability.
use Rattle.std.proofs.Common.{◌≡◌, ◌≢◌, ◌⊎◌, inl, inr, ◌<◌, ◌≤◌, ◌+◌, ℕ, Option, Some, is_some, true, sym, ap, ◌∙◌, arith}
use Rattle.std.proofs.Math.Nat.{eq-or-lt_of_le}
use Rattle.ti_rows.specs.declared.rows.Row.{Row}
use Rattle.ti_caps.specs.Table.{name_at}
use Rattle.ti_rows.specs.Names.{cap_of, name_of, order, first_in_order, string_in_order, capabilities}
use Rattle.ti_rows.proofs.NameFacts.{firsts_in_order, named, orders_small}
use Rattle.ti_lines.proofs.LinesRead.{same_name}

pub has_first : (place : ℕ) (found : Option Row) → place < capabilities → found ≡ first_in_order place → is_some found ≡ true
has_first place found lt e = let f = firsts_in_order place lt in ap (λ (o : Option Row). is_some o) (e ∙ f.is_first)

pub first_order : (place : ℕ) (first : Row) → place < capabilities → Some first ≡ first_in_order place → order first ≡ place
first_order place first lt e =
    let f = firsts_in_order place lt in
    let is : Some first ≡ Some f.row = e ∙ f.is_first in
    let alike : first ≡ f.row = cc in
    ap (λ (r : Row). order r) alike ∙ f.ordered

-- no row of an earlier place is the capability's
abbrev pub Apart : ℕ → ℕ → Type 0
Apart cap place = (row : Row) → order row < place → cap_of row ≢ cap

pub passed : (cap place : ℕ) (first : Row) → order first ≡ place → cap_of first ≢ cap → Apart cap place → Apart cap (place + 1)
passed cap place first ordered differs before row less = by_place (eq-or-lt_of_le (omega (arith, less)))
  where
    by_place : (order row ≡ place) ⊎ (order row < place) → cap_of row ≢ cap
    by_place (inl same) = λ is. differs (ap (λ (n : ℕ). 83 + string_in_order n) (ordered ∙ sym same) ∙ is)
    by_place (inr earlier) = before row earlier

pub all_apart : (cap place : ℕ) → capabilities ≤ place → Apart cap place → (row : Row) → cap_of row ≢ cap
all_apart cap place all before row = let small : order row < capabilities = orders_small row in before row (omega (arith, small, all))

-- ---- capabilities differ from place to place

pub same_place : (a b : Row) → cap_of a ≡ cap_of b → order a ≡ order b
same_place a b e = same_name a b one_name
  where
    one_name : name_of a ≡ name_of b
    one_name = sym (named (order a) (orders_small a)) ∙ (ap (λ (cap : ℕ). name_at cap) e ∙ named (order b) (orders_small b))
