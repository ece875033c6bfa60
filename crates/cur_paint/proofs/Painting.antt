-- Steps of a painter, one after another.
use Rattle.std.proofs.Common.{◌≡◌, true, ℕ, ◌+◌, ◌-◌, ◌*◌, ◌<◌, ◌≤◌, List, Result, Ok, Err, refl, ap, subst, ◌∙◌, arith}
use Rattle.std.specs.Prelude.{OnOk}
use Rattle.cur_steps.specs.Wire.{IsWire}
use Rattle.cur_steps.specs.declared.wires.WireFault.{WireFault}
use Rattle.cur_steps.proofs.Stops.{on_ok_map, steps_fail, steps_next, steps_nothing, steps_wider}
use Rattle.ti_conforms.specs.Certified.{Table, IsChecked, IsLost, cell_limit}
use Rattle.cur_steps.specs.Beliefs.{Agrees}
use Rattle.cur_steps.specs.Gaps.{BeginsAs}
use Rattle.cur_steps.specs.Inks.{mixed, same}
use Rattle.cur_steps.specs.Pieces.{IsPaint}
use Rattle.cur_steps.specs.Steps.{Acts}
use Rattle.cur_steps.specs.declared.inks.Cells.{Cells}
use Rattle.cur_steps.specs.declared.inks.Ink.{Ink}
use Rattle.cur_steps.proofs.Actions.{agrees_lost}
use Rattle.cur_paint.specs.Differ.{span}
use Rattle.cur_paint.specs.Scenes.{IsSame, Mends, MendsCells, MendsFrom, Scene, line_changed, mended, scene}
use Rattle.cur_paint.specs.declared.painters.Painter.{Painter}
use Rattle.cur_paint.proofs.Mixtures.{agrees_as, found_same, mixed_before, mixed_front, mixed_same, span_grows, some_times, span_join, span_parts, span_split, sum_limit, times_grows}

-- the cells are equal on the screen
abbrev pub AreEqual : Table → (ℕ → ℕ → Ink) → (ℕ → ℕ → Ink) → Type 0
AreEqual t g h = (i j : ℕ) → i < t.rows → j < t.cols → g i j ≡ h i j

pub itself : (t : Table) (g : ℕ → ℕ → Ink) → AreEqual t g g
itself t g i j li lj = refl

-- mixtures up to an equal column
pub at_as : (t : Table) (old new : ℕ → ℕ → Ink) (r c d : ℕ) → c ≡ d → AreEqual t (mixed old new r c) (mixed old new r d)
at_as t old new r c d e i j li lj = ap (λ (n : ℕ). mixed old new r n i j) e

pub same_then : {C O N W : Type 0} (a b c : Painter C O N W) → IsSame a b → IsSame b c → IsSame a c
same_then a b c h k = record { screens = k.screens ∙ h.screens; pen = k.pen ∙ h.pen }

within_both : (m n k l : ℕ) → m + n ≤ k → m * l + n * l ≤ k * l
within_both m n k l le = omega (arith, sum_limit m n (m + n) l refl, times_grows (m + n) k l le)

-- a step from equal cells and to equal cells, within more cells
pub mends_as : {C O N W T E : Type 0} {table : C → Table} {old : O → ℕ → ℕ → Ink} {new : N → ℕ → ℕ → Ink} {went : W → W → List ℕ → Type 0} {failures : W → ℕ} {a b : Painter C O N W} {answer : Result T E} {m n : Scene → ℕ} {f g p q : Scene → ℕ → ℕ → Ink}
    → Mends table old new went failures a b answer m f g → m (scene table old new a.screens.now) ≤ n (scene table old new a.screens.now)
    → AreEqual (table a.screens.now.checked.now) (p (scene table old new a.screens.now)) (f (scene table old new a.screens.now)) → AreEqual (table a.screens.now.checked.now) (g (scene table old new a.screens.now)) (q (scene table old new a.screens.now))
    → Mends table old new went failures a b answer n p q
mends_as {table} {old} {new} {went} {failures} {a} {b} {answer} {m} {n} {f} {g} {p} {q} h le e k =
    let s : Scene = scene table old new a.screens.now in
    let t : Table = s.table in
    record {
      step = steps_wider went failures a.pen.now.wire b.pen.now.wire answer (IsPaint t) (m s * cell_limit t) (n s * cell_limit t) (IsLost t)
          (Agrees t (f s) a.pen.now.belief) (Agrees t (g s) b.pen.now.belief) (Agrees t (p s) a.pen.now.belief) (Agrees t (q s) b.pen.now.belief)
          (times_grows (m s) (n s) (cell_limit t) le) (agrees_as t (p s) (f s) a.pen.now.belief e) (agrees_as t (g s) (q s) b.pen.now.belief k) h.step;
      mode = h.mode;
      same = h.same;
    }

-- two steps, one after the other
pub mends_then : {C O N W T E U F : Type 0} {table : C → Table} {old : O → ℕ → ℕ → Ink} {new : N → ℕ → ℕ → Ink} {went : W → W → List ℕ → Type 0} {failures : W → ℕ} {a b c : Painter C O N W} {v : U} {answer : Result T E} {m n k : Scene → ℕ} {f g h : Scene → ℕ → ℕ → Ink}
    → IsWire went failures → Mends {T = U} {E = F} table old new went failures a b (Ok v) m f g → Mends table old new went failures b c answer n g h
    → m (scene table old new a.screens.now) + n (scene table old new a.screens.now) ≤ k (scene table old new a.screens.now)
    → Mends table old new went failures a c answer k f h
mends_then {table} {old} {new} {went} {failures} {a} {b} {c} {v} {answer} {m} {n} {k} {f} {g} {h} laws first second le =
    let s : Scene = scene table old new a.screens.now in
    let t : Table = s.table in
    let step : Acts went failures b.pen.now.wire c.pen.now.wire answer t (n s * cell_limit t) (g s) (h s) b.pen.now.belief c.pen.now.belief =
    subst (λ x. (let z = scene table old new x.now in Acts went failures b.pen.now.wire c.pen.now.wire answer z.table (n z * cell_limit z.table) (g z) (h z) b.pen.now.belief c.pen.now.belief)) first.same.screens second.step in
    record {
      step = steps_next went failures laws a.pen.now.wire b.pen.now.wire c.pen.now.wire v answer (IsPaint t) (m s * cell_limit t) (n s * cell_limit t) (k s * cell_limit t) (IsLost t)
          (Agrees t (f s) a.pen.now.belief) (Agrees t (g s) b.pen.now.belief) (Agrees t (h s) c.pen.now.belief) (within_both (m s) (n s) (k s) (cell_limit t) le) first.step step;
      mode = on_ok_map answer (c.pen.now.belief.mode ≡ b.pen.now.belief.mode) (c.pen.now.belief.mode ≡ a.pen.now.belief.mode) (λ e. e ∙ first.mode) second.mode;
      same = same_then a b c first.same second.same;
    }

-- a step that failed ends the whole
pub mends_fail : {C O N W T E U F : Type 0} {table : C → Table} {old : O → ℕ → ℕ → Ink} {new : N → ℕ → ℕ → Ink} {went : W → W → List ℕ → Type 0} {failures : W → ℕ} {a b : Painter C O N W} {v : E} {u : F} {m n : Scene → ℕ} {f g h : Scene → ℕ → ℕ → Ink}
    → Mends {T = T} {E = E} table old new went failures a b (Err v) m f g → m (scene table old new a.screens.now) ≤ n (scene table old new a.screens.now)
    → Mends {T = U} {E = F} table old new went failures a b (Err u) n f h
mends_fail {table} {old} {new} {went} {failures} {a} {b} {v} {u} {m} {n} {f} {g} {h} first le =
    let s : Scene = scene table old new a.screens.now in
    let t : Table = s.table in
    record {
      step = steps_fail went failures a.pen.now.wire b.pen.now.wire v u (IsPaint t) (m s * cell_limit t) (n s * cell_limit t) (IsLost t)
          (Agrees t (f s) a.pen.now.belief) (Agrees t (g s) b.pen.now.belief) (Agrees t (h s) b.pen.now.belief) (times_grows (m s) (n s) (cell_limit t) le) first.step;
      mode = tt;
      same = first.same;
    }

-- no step at all
pub mends_none : {C O N W T E : Type 0} {table : C → Table} {old : O → ℕ → ℕ → Ink} {new : N → ℕ → ℕ → Ink} {went : W → W → List ℕ → Type 0} {failures : W → ℕ} {a : Painter C O N W} {v : T} {n : Scene → ℕ} {f g : Scene → ℕ → ℕ → Ink}
    → IsWire went failures → IsChecked (table a.screens.now.checked.now)
    → AreEqual (table a.screens.now.checked.now) (f (scene table old new a.screens.now)) (g (scene table old new a.screens.now))
    → Mends {T = T} {E = E} table old new went failures a a (Ok v) n f g
mends_none {table} {old} {new} {went} {failures} {a} {v} {n} {f} {g} laws checked e =
    let s : Scene = scene table old new a.screens.now in
    let t : Table = s.table in
    record {
      step = steps_nothing went failures laws a.pen.now.wire v (IsPaint t) (n s * cell_limit t) (IsLost t) (Agrees t (f s) a.pen.now.belief) (Agrees t (g s) a.pen.now.belief)
          (λ u x. x.ready.rest) (agrees_as t (f s) (g s) a.pen.now.belief e) (agrees_lost t checked (f s) a.pen.now.belief);
      mode = refl;
      same = record { screens = refl; pen = refl };
    }

-- a single action of the painter
pub mends_by : {C O N W T E : Type 0} {table : C → Table} {old : O → ℕ → ℕ → Ink} {new : N → ℕ → ℕ → Ink} {went : W → W → List ℕ → Type 0} {failures : W → ℕ} {a b : Painter C O N W} {answer : Result T E} {n : Scene → ℕ} {f g : Scene → ℕ → ℕ → Ink} (limit : ℕ) (h : ℕ → ℕ → Ink)
    → Acts went failures a.pen.now.wire b.pen.now.wire answer (table a.screens.now.checked.now) limit (f (scene table old new a.screens.now)) h a.pen.now.belief b.pen.now.belief
    → limit ≤ n (scene table old new a.screens.now) * cell_limit (table a.screens.now.checked.now) → AreEqual (table a.screens.now.checked.now) h (g (scene table old new a.screens.now))
    → OnOk answer (b.pen.now.belief.mode ≡ a.pen.now.belief.mode) → IsSame a b → Mends table old new went failures a b answer n f g
mends_by {table} {old} {new} {went} {failures} {a} {b} {answer} {n} {f} {g} limit h step le e mode same =
    let s : Scene = scene table old new a.screens.now in
    let t : Table = s.table in
    record {
      step = steps_wider went failures a.pen.now.wire b.pen.now.wire answer (IsPaint t) limit (n s * cell_limit t) (IsLost t)
          (Agrees t (f s) a.pen.now.belief) (Agrees t h b.pen.now.belief) (Agrees t (f s) a.pen.now.belief) (Agrees t (g s) b.pen.now.belief) le (λ u x. x) (agrees_as t h (g s) b.pen.now.belief e) step;
      mode = mode;
      same = same;
    }

-- ---- cells of a line

-- the first of some cells are mended
pub record IsMendedTo {C O N W : Type 0} (table : C → Table) (old : O → ℕ → ℕ → Ink) (new : N → ℕ → ℕ → Ink) (went : W → W → List ℕ → Type 0) (failures : W → ℕ) (before after : Painter C O N W) (cells : Cells) (done : ℕ) : Type 0 where
  pub within : done ≤ cells.count
  pub mends : MendsCells {T = Unit {0}} {E = WireFault} table old new went failures before after (Ok tt) (record cells { count = done })

-- cells, and those after them
pub cells_then : {C O N W T E U F : Type 0} {table : C → Table} {old : O → ℕ → ℕ → Ink} {new : N → ℕ → ℕ → Ink} {went : W → W → List ℕ → Type 0} {failures : W → ℕ} {a b c : Painter C O N W} {v : U} {answer : Result T E} (row from n at k total : ℕ)
    → IsWire went failures → MendsCells {T = U} {E = F} table old new went failures a b (Ok v) (record { row = row; from = from; count = n })
    → MendsCells table old new went failures b c answer (record { row = row; from = at; count = k }) → at ≡ from + n → n + k ≡ total
    → MendsCells table old new went failures a c answer (record { row = row; from = from; count = total })
cells_then {table} {old} {new} {went} {failures} {a} {b} {c} {v} {answer} row from n at k total laws first second e sum =
    let s : Scene = scene table old new a.screens.now in
    let there : MendsCells table old new went failures b c answer (record { row = row; from = from + n; count = k }) =
    subst (λ (m : ℕ). MendsCells table old new went failures b c answer (record { row = row; from = m; count = k })) e second in
    let join : span s.old s.new row from n + span s.old s.new row (from + n) k ≡ span s.old s.new row from (n + k) = span_join s.old s.new row from n k in
    let both : Mends table old new went failures a c answer (λ x. span x.old x.new row from (n + k)) (λ x. mended x row from) (λ x. mended x row (from + n + k)) =
    mends_then laws first there (omega (arith, join)) in
    subst (λ (m : ℕ). MendsCells table old new went failures a c answer (record { row = row; from = from; count = m })) sum
    (mends_as both (omega arith) (itself s.table (mended s row from)) (at_as s.table s.old s.new row (from + n + k) (from + (n + k)) (omega arith)))

-- cells that failed, and all those that would have followed
pub cells_fail : {C O N W T E U F : Type 0} {table : C → Table} {old : O → ℕ → ℕ → Ink} {new : N → ℕ → ℕ → Ink} {went : W → W → List ℕ → Type 0} {failures : W → ℕ} {a b : Painter C O N W} {v : E} {u : F} (row from n total : ℕ)
    → MendsCells {T = T} {E = E} table old new went failures a b (Err v) (record { row = row; from = from; count = n }) → n ≤ total
    → MendsCells {T = U} {E = F} table old new went failures a b (Err u) (record { row = row; from = from; count = total })
cells_fail {table} {old} {new} {a} row from n total first le =
    let s : Scene = scene table old new a.screens.now in
    mends_fail first (span_grows s.old s.new row from n total le)

-- no cells
pub cells_none : {C O N W T E : Type 0} {table : C → Table} {old : O → ℕ → ℕ → Ink} {new : N → ℕ → ℕ → Ink} {went : W → W → List ℕ → Type 0} {failures : W → ℕ} {a : Painter C O N W} {v : T} (row from : ℕ)
    → IsWire went failures → IsChecked (table a.screens.now.checked.now)
    → MendsCells {T = T} {E = E} table old new went failures a a (Ok v) (record { row = row; from = from; count = 0 })
cells_none {table} {old} {new} {a} row from laws checked =
    let s : Scene = scene table old new a.screens.now in
    mends_none laws checked (at_as s.table s.old s.new row from (from + 0) (omega arith))

-- cells, and one after them that doesn't differ
pub cells_skip : {C O N W T E : Type 0} {table : C → Table} {old : O → ℕ → ℕ → Ink} {new : N → ℕ → ℕ → Ink} {went : W → W → List ℕ → Type 0} {failures : W → ℕ} {a b : Painter C O N W} {answer : Result T E} (row from n : ℕ) (ink : Ink)
    → MendsCells table old new went failures a b answer (record { row = row; from = from; count = n }) → ink ≡ new b.screens.now.new.now row (from + n) → true ≡ same (old b.screens.now.old.now row (from + n)) ink
    → MendsCells table old new went failures a b answer (record { row = row; from = from; count = n + 1 })
cells_skip {table} {old} {new} {a} {b} row from n ink first is e =
    let s : Scene = scene table old new a.screens.now in
    let here : s.old row (from + n) ≡ s.new row (from + n) = subst (λ x. old x.now.old.now row (from + n) ≡ new x.now.new.now row (from + n)) first.same.screens (found_same (old b.screens.now.old.now) (new b.screens.now.new.now) row (from + n) (old b.screens.now.old.now row (from + n)) ink refl is e) in
    mends_as first (span_grows s.old s.new row from n (n + 1) (omega arith)) (itself s.table (mended s row from))
    (λ i j li lj. mixed_same s.old s.new row (from + n) i j here ∙ at_as s.table s.old s.new row (from + n + 1) (from + (n + 1)) (omega arith) i j li lj)

-- a single action, whatever the cells are, of at most the bytes of one of them
pub cells_by : {C O N W T E : Type 0} {table : C → Table} {old : O → ℕ → ℕ → Ink} {new : N → ℕ → ℕ → Ink} {went : W → W → List ℕ → Type 0} {failures : W → ℕ} {a b : Painter C O N W} {answer : Result T E} (row from n : ℕ) (h : (ℕ → ℕ → Ink) → ℕ → ℕ → Ink)
    → ((g : ℕ → ℕ → Ink) → BeginsAs g (new a.screens.now.new.now) row from → Acts went failures a.pen.now.wire b.pen.now.wire answer (table a.screens.now.checked.now) (cell_limit (table a.screens.now.checked.now)) g (h g) a.pen.now.belief b.pen.now.belief)
    → 0 < span (old a.screens.now.old.now) (new a.screens.now.new.now) row from n
    → AreEqual (table a.screens.now.checked.now) (h (mixed (old a.screens.now.old.now) (new a.screens.now.new.now) row from)) (mixed (old a.screens.now.old.now) (new a.screens.now.new.now) row (from + n))
    → OnOk answer (b.pen.now.belief.mode ≡ a.pen.now.belief.mode) → IsSame a b → MendsCells table old new went failures a b answer (record { row = row; from = from; count = n })
cells_by {table} {old} {new} {a} row from n h step some e mode same =
    let s : Scene = scene table old new a.screens.now in
    let before = mended s row from in
    mends_by (cell_limit s.table) (h before) (step before (mixed_before s.old s.new row from)) (some_times _ (cell_limit s.table) some) e mode same

-- ---- a line

-- cells up to the last column, in other words
pub cells_from : {C O N W T E : Type 0} {table : C → Table} {old : O → ℕ → ℕ → Ink} {new : N → ℕ → ℕ → Ink} {went : W → W → List ℕ → Type 0} {failures : W → ℕ} {a b : Painter C O N W} {answer : Result T E} (row from cols : ℕ)
    → MendsCells table old new went failures a b answer (record { row = row; from = from; count = cols - from }) → cols ≡ (table a.screens.now.checked.now).cols → from ≤ cols
    → MendsFrom table old new went failures a b answer row from
cells_from {table} {old} {new} {went} {failures} {a} {b} {answer} row from cols first e le =
    let s : Scene = scene table old new a.screens.now in
    let all : MendsCells table old new went failures a b answer (record { row = row; from = from; count = s.table.cols - from }) =
    subst (λ (m : ℕ). MendsCells table old new went failures a b answer (record { row = row; from = from; count = m - from })) e first in
    mends_as all (omega arith) (itself s.table (mended s row from)) (at_as s.table s.old s.new row (from + (s.table.cols - from)) s.table.cols (omega (arith, e, le)))

-- a line whose first cells are right, up to a column from which on the rest is mended by another step
pub line_then : {C O N W T E U F : Type 0} {table : C → Table} {old : O → ℕ → ℕ → Ink} {new : N → ℕ → ℕ → Ink} {went : W → W → List ℕ → Type 0} {failures : W → ℕ} {a b c : Painter C O N W} {v : U} {answer : Result T E} (row from tail : ℕ) {n : Scene → ℕ} {h : Scene → ℕ → ℕ → Ink}
    → IsWire went failures → MendsCells {T = U} {E = F} table old new went failures a b (Ok v) (record { row = row; from = from; count = tail - from })
    → Mends table old new went failures b c answer n (λ s. mended s row tail) h
    → from ≤ tail → tail ≤ (table a.screens.now.checked.now).cols
    → n (scene table old new a.screens.now) ≤ span (old a.screens.now.old.now) (new a.screens.now.new.now) row tail ((table a.screens.now.checked.now).cols - tail)
    → ((k : ℕ) → k < from → old a.screens.now.old.now row k ≡ new a.screens.now.new.now row k)
    → Mends table old new went failures a c answer (λ s. line_changed s row) (λ s. mended s row 0) h
line_then {table} {old} {new} {went} {failures} {a} {b} {c} {answer} row from tail {n} {h} laws first second order within few before =
    let s : Scene = scene table old new a.screens.now in
    let front : span s.old s.new row 0 from + span s.old s.new row from (s.table.cols - from) ≡ span s.old s.new row 0 s.table.cols = span_parts s.old s.new row from s.table.cols (omega (arith, order, within)) in
    let parts : span s.old s.new row from (tail - from) + span s.old s.new row tail (s.table.cols - tail) ≡ span s.old s.new row from (s.table.cols - from) = span_split s.old s.new row from tail s.table.cols order within in
    let there : Mends table old new went failures a b (Ok _) (λ x. span x.old x.new row from (tail - from)) (λ x. mended x row 0) (λ x. mended x row tail) =
    mends_as first (omega arith) (λ i j li lj. mixed_front s.old s.new row from i j before) (at_as s.table s.old s.new row (from + (tail - from)) tail (omega (arith, order))) in
    mends_then laws there second (omega (arith, front, parts, few))

-- its first cells failed
pub line_fail : {C O N W T E U F : Type 0} {table : C → Table} {old : O → ℕ → ℕ → Ink} {new : N → ℕ → ℕ → Ink} {went : W → W → List ℕ → Type 0} {failures : W → ℕ} {a b : Painter C O N W} {v : E} {u : F} (row from tail : ℕ) {h : Scene → ℕ → ℕ → Ink}
    → MendsCells {T = T} {E = E} table old new went failures a b (Err v) (record { row = row; from = from; count = tail - from })
    → from ≤ tail → tail ≤ (table a.screens.now.checked.now).cols
    → ((k : ℕ) → k < from → old a.screens.now.old.now row k ≡ new a.screens.now.new.now row k)
    → Mends {T = U} {E = F} table old new went failures a b (Err u) (λ s. line_changed s row) (λ s. mended s row 0) h
line_fail {T} {E} {table} {old} {new} {went} {failures} {a} {b} {v} row from tail first order within before =
    let s : Scene = scene table old new a.screens.now in
    let front : span s.old s.new row 0 from + span s.old s.new row from (s.table.cols - from) ≡ span s.old s.new row 0 s.table.cols = span_parts s.old s.new row from s.table.cols (omega (arith, order, within)) in
    let parts : span s.old s.new row from (tail - from) + span s.old s.new row tail (s.table.cols - tail) ≡ span s.old s.new row from (s.table.cols - from) = span_split s.old s.new row from tail s.table.cols order within in
    let there : Mends {T = T} {E = E} table old new went failures a b (Err v) (λ x. line_changed x row) (λ x. mended x row 0) (λ x. mended x row (from + (tail - from))) =
    mends_as first (omega (arith, front, parts)) (λ i j li lj. mixed_front s.old s.new row from i j before) (itself s.table (mended s row (from + (tail - from)))) in
    mends_fail there (omega arith)
