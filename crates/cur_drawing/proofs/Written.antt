-- A character that a cell can hold is written as it is.
use Rattle.std.proofs.Common.{◌≡◌, ℕ, ◌+◌, ◌<◌, ◌==◌, ◌||◌, nat_lt, Bool, true, false, ap, ◌∙◌, arith, if◌then◌else◌}
use Rattle.std.proofs.lemmas.Bool.Decides.{nat_tests}
use Rattle.cur_drawing.specs.declared.puts.Put.{Put}
use Rattle.cur_drawing.specs.Grids.{Grid, filled}
use Rattle.cur_drawing.specs.Windows.{cells_of, checked, content, is_pair, is_printed}
use Rattle.cur_drawing.specs.Calls as calls
use Rattle.cur_drawing.specs.Calls.{Canvas, CanvasStep, canvas, done, if_accepted}

other : (b n : ℕ) → is_printed b ≡ true → n < 32 → (b == n) ≡ false
other b n printed lt = grind (arith, nat_tests, printed, lt)

in_ascii : (b : ℕ) → is_printed b ≡ true → nat_lt b 128 ≡ true
in_ascii b printed = grind (arith, nat_tests, printed)

no_control : (b : ℕ) → is_printed b ≡ true → (nat_lt b 32 || (b == 127)) ≡ false
no_control b printed = grind (arith, nat_tests, printed)

pub character_one : (p : Put) (s : Canvas) → is_printed p.byte ≡ true → calls.character p s ≡ calls.written p s
character_one p s printed =
    let b = p.byte in
    pick (b == 10) (b == 9) (b == 8) (b == 13) (nat_lt b 32 || (b == 127)) _ _ _ _ _ (calls.written p s) (other b 10 printed (omega arith)) (other b 9 printed (omega arith)) (other b 8 printed (omega arith)) (other b 13 printed (omega arith)) (no_control b printed)
  where
    pick : (p q r s t : Bool) (A B C D E W : CanvasStep) → p ≡ false → q ≡ false → r ≡ false → s ≡ false → t ≡ false → (if p then A else if q then B else if r then C else if s then D else if t then E else W) ≡ W
    pick p q r s t A B C D E W e f g h i =
        ap (λ (x : Bool). if x then A else if q then B else if r then C else if s then D else if t then E else W) e
        ∙ ap (λ (x : Bool). if x then B else if r then C else if s then D else if t then E else W) f
        ∙ ap (λ (x : Bool). if x then C else if s then D else if t then E else W) g
        ∙ ap (λ (x : Bool). if x then D else if t then E else W) h
        ∙ ap (λ (x : Bool). if x then E else W) i

pub added_one : (p : Put) (s : Canvas) → is_printed p.byte ≡ true → is_pair p.pair ≡ true → calls.added p s ≡ calls.written p s
added_one p s printed pair =
    ap (λ (t : Bool). if_accepted (checked t (is_pair p.pair)) s (calls.character p s)) (in_ascii p.byte printed)
    ∙ ap (λ (t : Bool). if_accepted (checked true t) s (calls.character p s)) pair
    ∙ character_one p s printed

-- ---- not in the last column

-- the grid after one cell was written at the cursor
abbrev pub one_drawn : Put → Canvas → Grid
one_drawn p s = filled (cells_of s.window s.window.row s.window.col 1) (content s.window p) s.grid

below : (m n : ℕ) → m < n → nat_lt m n ≡ true
below m n lt = grind (arith, nat_tests)

written_one : (p : Put) (s : Canvas) → s.window.col + 1 < s.window.area.cols → calls.written p s ≡ done (one_drawn p s) (record s.window { col = s.window.col + 1 })
written_one p s lt = ap (λ (t : Bool). if t then done (one_drawn p s) (record s.window { col = s.window.col + 1 }) else calls.advanced (canvas (one_drawn p s) s.window)) (below (s.window.col + 1) s.window.area.cols lt)

pub added_next : (p : Put) (s : Canvas) → is_printed p.byte ≡ true → is_pair p.pair ≡ true → s.window.col + 1 < s.window.area.cols → calls.added p s ≡ done (one_drawn p s) (record s.window { col = s.window.col + 1 })
added_next p s printed pair lt = added_one p s printed pair ∙ written_one p s lt
