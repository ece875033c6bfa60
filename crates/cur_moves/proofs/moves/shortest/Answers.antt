use Rattle.std.proofs.Common.{◌≤◌, ◌≡◌, ℕ, Option, Some, length, sym, ap, subst, arith}
use Rattle.std.proofs.lemmas.Option.{same_Some}
use Rattle.ti_rows.specs.declared.rows.Row.{Row}
use Rattle.ti_rows.specs.declared.rows.Row.TheVariants.{Cup, Home, Cr, Hpa, Vpa, Cub1, Cuf1, Cuu1, Cud1, Cub, Cuf, Cuu, Cud}
use Rattle.ti_conforms.specs.Certified.{Table, text_of}
use Rattle.cur_steps.specs.declared.beliefs.Place.{Place}
use Rattle.cur_moves.specs.Moves.{MovesFrom, IsWay}
use Rattle.cur_moves.proofs.Fewest.{picked, unknown, fewest_of, fewest_from}
use Rattle.cur_moves.proofs.moves.shortest.Goals as goal

pub returns-in_default-clause-way : goal.returns-in_default-clause-way
returns-in_default-clause-way g c = c.shorter-best.ensures.way c.args.from c.args.row c.args.col (c.straight.ensures.way c.args.from) (c.by_corner.ensures.moves (g.C.Certificate.table c.args.checked.now).cols c.args.from)

pub returns-in_default-clause-least : goal.returns-in_default-clause-least
returns-in_default-clause-least g c =
    let t : Table = g.C.Certificate.table c.args.checked.now in
    let n : ℕ = c.shorter-best.result.bytes in
    let line : length (text_of t c.straight.result.line) ≡ length (text_of t (Cup c.args.row c.args.col)) = ap (λ (l : Row). length (text_of t l)) c.straight.ensures.line in
    fewest_of t c.args.from c.args.row c.args.col n (omega (arith, line, c.straight.ensures.bytes, c.shorter-best.ensures.first))
    (λ m. picked t n n _ Home (omega arith) c.shorter-best.ensures.second (c.by_corner.ensures.found t.cols c.args.from m)) (λ p e. absurd (unknown c.args.from c.in_default.is p e))

pub returns-clause-way : goal.returns-clause-way
returns-clause-way g c =
    let t : Table = g.C.Certificate.table c.args.checked.now in
    let row : ℕ = c.args.row in
    let col : ℕ = c.args.col in
    let from : Option Place = Some c.in-Some.at in
    let corner : IsWay t from row col c.shorter-best.result.line = c.shorter-best.ensures.way from row col (c.straight.ensures.way from) (c.by_corner.ensures.moves t.cols from) in
    let start : IsWay t from row col c.shorter-best-2.result.line = c.shorter-best-2.ensures.way from row col corner (c.by_line_start.ensures.moves t.cols) in
    let one : IsWay t from row col c.shorter-best-3.result.line = c.shorter-best-3.ensures.way from row col start (rw c.cols-cols.ensures.value at c.by_one.ensures.moves) in
    let count : IsWay t from row col c.shorter-best-4.result.line = c.shorter-best-4.ensures.way from row col one (rw c.cols-cols.ensures.value at c.by_count.ensures.moves) in
    let column : IsWay t from row col c.shorter-best-5.result.line = c.shorter-best-5.ensures.way from row col count (c.by_column_name.ensures.moves t.cols) in
    rw c.in-Some.is (c.shorter.ensures.way from row col column (c.by_row_name.ensures.moves t.cols))

pub returns-clause-least : goal.returns-clause-least
returns-clause-least g c =
    let t : Table = g.C.Certificate.table c.args.checked.now in
    let row : ℕ = c.args.row in
    let col : ℕ = c.args.col in
    let at : Place = c.in-Some.at in
    let n : ℕ = c.shorter.result.bytes in
    let line : length (text_of t c.straight.result.line) ≡ length (text_of t (Cup row col)) = ap (λ (l : Row). length (text_of t l)) c.straight.ensures.line in
    let column : n ≤ c.shorter-best-5.result.bytes = c.shorter.ensures.first in
    let count : n ≤ c.shorter-best-4.result.bytes = omega (arith, column, c.shorter-best-5.ensures.first) in
    let one : n ≤ c.shorter-best-3.result.bytes = omega (arith, count, c.shorter-best-4.ensures.first) in
    let start : n ≤ c.shorter-best-2.result.bytes = omega (arith, one, c.shorter-best-3.ensures.first) in
    let corner : n ≤ c.shorter-best.result.bytes = omega (arith, start, c.shorter-best-2.ensures.first) in
    let ones = rw c.cols-cols.ensures.value at c.by_one.ensures in
    let counts = rw c.cols-cols.ensures.value at c.by_count.ensures in
    let from_place = fewest_from t t.cols at row col n
    (λ m. picked t n _ _ Cr start c.shorter-best-2.ensures.second (c.by_line_start.ensures.found t.cols m))
    (λ k m. picked t n _ _ (Hpa k) column c.shorter-best-5.ensures.second (c.by_column_name.ensures.found t.cols k m))
    (λ k m. picked t n n _ (Vpa k) (omega arith) c.shorter.ensures.second (c.by_row_name.ensures.found t.cols k m))
    (λ m. picked t n _ _ Cub1 one c.shorter-best-3.ensures.second (ones.left m))
    (λ m. picked t n _ _ Cuf1 one c.shorter-best-3.ensures.second (ones.right m))
    (λ m. picked t n _ _ Cuu1 one c.shorter-best-3.ensures.second (ones.up m))
    (λ m. picked t n _ _ Cud1 one c.shorter-best-3.ensures.second (ones.down m))
    (λ k m. picked t n _ _ (Cub k) count c.shorter-best-4.ensures.second (counts.left k m))
    (λ k m. picked t n _ _ (Cuf k) count c.shorter-best-4.ensures.second (counts.right k m))
    (λ k m. picked t n _ _ (Cuu k) count c.shorter-best-4.ensures.second (counts.up k m))
    (λ k m. picked t n _ _ (Cud k) count c.shorter-best-4.ensures.second (counts.down k m)) in
    rw c.in-Some.is (fewest_of t (Some at) row col n (omega (arith, corner, line, c.straight.ensures.bytes, c.shorter-best.ensures.first))
    (λ m. picked t n _ _ Home corner c.shorter-best.ensures.second (c.by_corner.ensures.found t.cols (Some at) m)) (λ p e l m. from_place l (subst (λ (q : Place). MovesFrom t.cols q row col l) (sym (same_Some at p e)) m)))
