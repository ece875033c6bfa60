-- A capability and its parameters name at most one row, and it is found by the capability's name.
use Rattle.std.proofs.Common.{Bor, ◌≡◌, ◌≢◌, ℕ, List, Option, Some, None, IfSome, IfNone, refl, sym, ap, ◌∙◌, arith}
use Rattle.std.proofs.lemmas.Option.{same_Some, none-some}
use Rattle.std.specs.Prelude.{option_copied}
use Rattle.ti_caps.specs.Table.{name_at, place_in}
use Rattle.ti_caps.proofs.Tables.{place_in_name}
use Rattle.ti_rows.specs.declared.rows.Row.{Row}
use Rattle.ti_rows.specs.Names.{order, name_in_order, name_of, cap_of}
use Rattle.ti_rows.specs.Params.{with_params, HasParams}
use Rattle.ti_rows.proofs.NameFacts.{named, orders_small, strings_small}
use Rattle.ti_rows.proofs.Readers.{finds_params, params_found}
use Rattle.ti_lines.proofs.LinesRead.{same_name}
use Rattle.ti_conforms.specs.Table.{Table}
use Rattle.ti_conforms.specs.Holds.{LineHolds}
use Rattle.ti_cert.specs.Verified.{IsRowOf, IsLineOf}

-- a row's capability has the row's name
name_of_cap : (row : Row) → name_at (cap_of row) ≡ name_of row
name_of_cap row = named (order row) (orders_small row)

same_order : (a b : Row) → cap_of a ≡ cap_of b → order a ≡ order b
same_order a b e = same_name a b (sym (name_of_cap a) ∙ (ap name_at e ∙ name_of_cap b))

-- a capability has at most one row for each list of parameters
one_row : (a b : Row) (cap : ℕ) (numbers : List ℕ) → IsRowOf cap numbers a → IsRowOf cap numbers b → a ≡ b
one_row a b cap numbers p q = same_Some a b
    (sym (params_found a a refl) ∙ (ap (λ (ns : List ℕ). with_params a ns) (p.1 ∙ sym q.1) ∙ params_found a b (same_order a b (p.0 ∙ sym q.0))))

-- if the row's name is found at the place of a capability, that capability is the row's
cap_named : (row : Row) (cap : ℕ) (text : List ℕ) → name_of row ≡ text → place_in text ≡ Some cap → cap_of row ≡ cap
cap_named row cap text named_so placed =
    let small = strings_small (order row) (orders_small row) in
    same_Some (cap_of row) cap (sym (place_in_name (cap_of row) (omega (arith, small))) ∙ (ap place_in (name_of_cap row ∙ named_so) ∙ placed))

pub row_found : (first : Row) (cap : ℕ) (text numbers : List ℕ) (found : Option Row) → name_of first ≡ text → place_in text ≡ Some cap → found ≡ with_params first numbers → IfSome found (IsRowOf cap numbers)
row_found first cap text numbers None named_so placed e = tt
row_found first cap text numbers (Some row) named_so placed e =
    let h : HasParams first row numbers = finds_params first row numbers (sym e) in
    (cap_named row cap text (ap name_in_order h.same_order ∙ named_so) placed, h.has)

pub no_row_with : (first : Row) (cap : ℕ) (text numbers : List ℕ) (found : Option Row) → name_of first ≡ text → place_in text ≡ Some cap → found ≡ with_params first numbers → IfNone found ((row : Row) → IsRowOf cap numbers row → ⊥)
no_row_with first cap text numbers (Some row) named_so placed e = tt
no_row_with first cap text numbers None named_so placed e = λ row is.
    none-some row (e ∙ (ap (λ (ns : List ℕ). with_params first ns) (sym is.1) ∙ params_found first row (same_order first row (cap_named first cap text named_so placed ∙ sym is.0))))

pub no_row_named : (cap : ℕ) (text numbers : List ℕ) (found : Option Row) → text ≡ name_at cap → ((row : Row) → name_of row ≢ text) → IfNone found ((row : Row) → IsRowOf cap numbers row → ⊥)
no_row_named cap text numbers (Some row) e none = tt
no_row_named cap text numbers None e none = λ row is. none row (sym (name_of_cap row) ∙ (ap name_at is.0 ∙ sym e))

-- the bytes of the row that was found are those of every row of this capability with these parameters
pub line_found : (t : Table) (cap : ℕ) (numbers : List ℕ) (row : Row) (bytes : Option (List ℕ)) → IsRowOf cap numbers row → bytes ≡ t.line_of row → (other : Row) → IsRowOf cap numbers other → bytes ≡ t.line_of other
line_found t cap numbers row bytes is e other such = e ∙ ap t.line_of (one_row row other cap numbers is such)

pub line_holds : (t : Table) (cap : ℕ) (numbers : List ℕ) (row : Row) (o : Option (Bor (List ℕ))) → IsRowOf cap numbers row → option_copied o ≡ t.line_of row → IfSome o (λ b. LineHolds t row b.now) → IfSome o (λ b. IsLineOf t cap numbers b.now)
line_holds t cap numbers row None is e h = tt
line_holds t cap numbers row (Some b) is e h = record { row = row; is_row = is; is_line = sym e; holds = h }
