-- A grid that gets all cells of another one of its shape equals it, and so does a screen.
use Rattle.std.proofs.Common.{◌≡◌, ℕ, ◌<◌, ◌++◌, List, length, take, drop, get_or, sym, ap, ◌∙◌, arith, if◌then◌else◌}
use Rattle.std.proofs.lemmas.Bool.Decides.{nat_tests}
use Rattle.std.proofs.lemmas.List.{get_or_default}
use Rattle.std.proofs.Math.Seq.{take-append_seam}
use Rattle.grids.specs.declared.areas.Area.{Area}
use Rattle.grids.proofs.Drawings.{grid_is_drawn, line_is_drawn}
use Rattle.cur_drawing.specs.Cells.{Content}
use Rattle.cur_drawing.specs.Grids.{Grid, line_at, copied, is_in, taken}
use Rattle.cur_drawing.specs.Calls.{place}
use Rattle.cur_screens.specs.VirtualScreen.{Screen, IsScreen, screen_of}
use Rattle.cur_screens.specs.declared.virtual_screen.Colors.{Colors}

-- the rectangle of all places
abbrev pub whole : ℕ → ℕ → Area
whole rows cols = record { top = 0; left = 0; rows = rows; cols = cols }

taken_there : (rows cols i j : ℕ) (g : Grid) (old : Content) → i < rows → j < cols → (if is_in (whole rows cols) i j then taken (whole rows cols) (place 0 0) g i j old else old) ≡ get_or (line_at g i) j old
taken_there rows cols i j g old lt lt2 = grind (arith, nat_tests)

pub all_copied : (rows cols : ℕ) (source g : Grid) → length source ≡ rows → length g ≡ rows → ((i : ℕ) → i < length source → length (line_at source i) ≡ cols) → ((i : ℕ) → i < length g → length (line_at g i) ≡ cols)
    → copied (whole rows cols) (place 0 0) source g ≡ source
all_copied rows cols source g e f wide wide2 =
    let here : ℕ → ℕ → Content → Content = λ i j old. if is_in (whole rows cols) i j then taken (whole rows cols) (place 0 0) source i j old else old in
    sym (grid_is_drawn here g source (e ∙ sym f)
    (λ i lt. line_is_drawn (here i) (line_at g i) (line_at source i) (wide i (omega (arith, e, f)) ∙ sym (wide2 i lt))
    (λ k d lt2. get_or_default (line_at source i) k d (get_or (line_at g i) k d) (omega (arith, wide i (omega (arith, e, f)), wide2 i lt))
    ∙ sym (taken_there rows cols i k source (get_or (line_at g i) k d) (omega (arith, f)) (omega (arith, wide2 i lt))))))

-- all parts of a screen but its size, which is equal
taken_over : (v w : Screen) (g : Grid) (pairs : List Colors) → IsScreen v → IsScreen w → v.rows ≡ w.rows → v.cols ≡ w.cols → g ≡ copied (whole v.rows v.cols) (place 0 0) w.grid v.grid → pairs ≡ w.pairs
    → record { rows = v.rows; cols = v.cols; grid = g; cursor = w.cursor; clearok = w.clearok; pairs = pairs } ≡ w
taken_over v w g pairs is there rows cols copied_is same =
    let cells : g ≡ w.grid = copied_is ∙ all_copied v.rows v.cols w.grid v.grid (there.lines ∙ sym rows) is.lines (λ i lt. there.columns i lt ∙ sym cols) is.columns in
    λ k. record { rows = rows k; cols = cols k; grid = cells k; cursor = w.cursor; clearok = w.clearok; pairs = same k }

same_size : (v w now other : Screen) (size : Screen → ℕ) → v ≡ now → w ≡ other → size now ≡ size other → size v ≡ size w
same_size v w now other size e f h = ap size e ∙ h ∙ sym (ap size f)

-- a vector whose slice became this list is this list
written_back : (n : ℕ) (new old : List Colors) → length new ≡ n → take n (new ++ drop (length new) old) ≡ new
written_back n new old e = ap (λ (k : ℕ). take k (new ++ drop (length new) old)) (sym e) ∙ take-append_seam new (drop (length new) old)

-- the pairs of another screen, and with them and all other parts that whole screen
pub record IsTakenOver (v w : Screen) (g : Grid) (pairs : List Colors) : Type 0 where
  pub same : pairs ≡ w.pairs
  pub all : screen_of v.rows v.cols g w.cursor w.clearok pairs ≡ w

-- a screen gets the cells, the pairs and all other parts of another one of its size
pub all_taken : (v w now other : Screen) (g : Grid) (new : List Colors) (n : ℕ) → IsScreen v → IsScreen w → v ≡ now → w ≡ other → now.rows ≡ other.rows → now.cols ≡ other.cols → g ≡ copied (whole v.rows v.cols) (place 0 0) w.grid v.grid
    → length new ≡ n → new ≡ w.pairs → IsTakenOver v w g (take n (new ++ drop (length new) v.pairs))
all_taken v w now other g new n is there e f rows cols cells long same =
    let pairs : take n (new ++ drop (length new) v.pairs) ≡ w.pairs = written_back n new v.pairs long ∙ same in
    record {
      same = pairs;
      all = taken_over v w g (take n (new ++ drop (length new) v.pairs)) is there (same_size v w now other (λ x. x.rows) e f rows) (same_size v w now other (λ x. x.cols) e f cols) cells pairs;
    }
