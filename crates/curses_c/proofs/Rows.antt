-- A kind is looked up among the rows of its range alone.
use Rattle.std.proofs.Common.{◌≡◌, ℕ, ◌<◌, ◌≤◌, Bool, true, ◌&&◌, List, [], ◌∷◌, ◌++◌, refl, ap, ◌∙◌, arith}
use Rattle.std.specs.Prelude.{◌==◌, nat_le, nat_lt, None, if◌then◌else◌}
use Rattle.std.proofs.lemmas.Bool.{and_parts, cond-false, leb-true, ltb-true, ne_eqb}
use Rattle.curses_c.specs.Requests.{Row, call_in, call_of, rows_made, rows_shown, rows_styled, rows_written}
use Rattle.curses_c.specs.declared.requests.Request.{Request}

abbrev up_to : ℕ → List Row → Bool
up_to last [] = true
up_to last (row ∷ rows) = nat_le row.0 last && up_to last rows

abbrev above : ℕ → List Row → Bool
above last [] = true
above last (row ∷ rows) = nat_lt last row.0 && above last rows

-- rows of lower kinds are passed
passed : (last : ℕ) (rows more : List Row) (r : Request) → up_to last rows ≡ true → last < r.kind → call_in (rows ++ more) r ≡ call_in more r
passed last [] more r low higher = refl
passed last (row ∷ rows) more r low higher =
    let parts = and_parts (nat_le row.0 last) (up_to last rows) low in
    let at_most : row.0 ≤ last = leb-true row.0 last parts.0 in
    cond-false (r.kind == row.0) (row.1 r) (call_in (rows ++ more) r) (ne_eqb r.kind row.0 (λ e. omega arith))
    ∙ passed last rows more r parts.1 higher

none_above : (last : ℕ) (rows : List Row) (r : Request) → above last rows ≡ true → r.kind ≤ last → call_in rows r ≡ None
none_above last [] r high lower = refl
none_above last (row ∷ rows) r high lower =
    let parts = and_parts (nat_lt last row.0) (above last rows) high in
    let greater : last < row.0 = ltb-true last row.0 parts.0 in
    cond-false (r.kind == row.0) (row.1 r) (call_in rows r) (ne_eqb r.kind row.0 (λ e. omega arith))
    ∙ none_above last rows r parts.1 lower

-- rows of higher kinds don't count
kept : (last : ℕ) (rows more : List Row) (r : Request) → above last more ≡ true → r.kind ≤ last → call_in (rows ++ more) r ≡ call_in rows r
kept last [] more r high lower = none_above last more r high lower
kept last (row ∷ rows) more r high lower = ap (λ x. if r.kind == row.0 then row.1 r else x) (kept last rows more r high lower)

pub made_alone : (r : Request) → r.kind ≤ 8 → call_of r ≡ call_in rows_made r
made_alone r lower = kept 8 rows_made (rows_written ++ (rows_styled ++ rows_shown)) r refl lower

pub written_alone : (r : Request) → 8 < r.kind → r.kind ≤ 24 → call_of r ≡ call_in rows_written r
written_alone r higher lower =
    passed 8 rows_made (rows_written ++ (rows_styled ++ rows_shown)) r refl higher
    ∙ kept 24 rows_written (rows_styled ++ rows_shown) r refl lower

pub styled_alone : (r : Request) → 24 < r.kind → r.kind ≤ 33 → call_of r ≡ call_in rows_styled r
styled_alone r higher lower =
    passed 24 rows_made (rows_written ++ (rows_styled ++ rows_shown)) r refl higher
    ∙ passed 24 rows_written (rows_styled ++ rows_shown) r refl higher
    ∙ kept 33 rows_styled rows_shown r refl lower

pub shown_alone : (r : Request) → 33 < r.kind → call_of r ≡ call_in rows_shown r
shown_alone r higher =
    passed 33 rows_made (rows_written ++ (rows_styled ++ rows_shown)) r refl higher
    ∙ passed 33 rows_written (rows_styled ++ rows_shown) r refl higher
    ∙ passed 33 rows_styled rows_shown r refl higher
