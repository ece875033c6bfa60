-- A run of characters that ends before the line's last place is written at once.
use Rattle.std.proofs.Common.{◌≡◌, ◌≢◌, ℕ, ◌+◌, ◌<◌, ◌≤◌, ◌==◌, ◌||◌, ◌++◌, Bool, true, false, Ok, Err, List, [], ◌∷◌, length, get_or, set, take, drop, refl, sym, subst, ap, ◌∙◌, inl, inr, arith, suc, zero, nat_lt, if◌then◌else◌}
use Rattle.std.proofs.lemmas.Bool.{cases_eq}
use Rattle.std.proofs.lemmas.Bool.Decides.{nat_tests}
use Rattle.std.proofs.lemmas.List.{get_or-set_same, set-get_or, set-set, length-set, take-append-drop}
use Rattle.grids.specs.Grids.{written as cells_written}
use Rattle.grids.proofs.Drawings.{set_is_filled}
use Rattle.cur_drawing.specs.declared.windows.Window.{Window}
use Rattle.cur_drawing.specs.Cells.{Content, IsPrinted, lettered}
use Rattle.cur_drawing.specs.Grids.{Grid, filled, line_at, shape_of}
use Rattle.cur_drawing.specs.Windows.{cells_of, content}
use Rattle.cur_drawing.specs.Calls.{Canvas, CanvasStep, added, added_all, and_then, canvas, done, plain}

-- the cell that a window writes for a byte
abbrev pub inked : Window → ℕ → Content
inked w b = lettered (content w (plain 32)) (content w (plain 120)) b

byte_inked : (w : Window) (b : ℕ) → 32 ≤ b → b ≤ 126 → inked w b ≡ content w (plain b)
byte_inked w b low high =
    elim (cases_eq b 32) [
      | inl same ↦ subst (λ (n : ℕ). inked w n ≡ content w (plain n)) (sym same) refl
      | inr other ↦ letter other
    ]
  where
    letter : b ≢ 32 → inked w b ≡ content w (plain b)
    letter other =
        let in_range : (nat_lt b 33 || nat_lt 126 b) ≡ false = grind (arith, nat_tests) in
        let no_space : (b == 32) ≡ false = grind (arith, nat_tests) in
        ap (λ (t : Bool). if t then content w (plain 32) else record (content w (plain 120)) { byte = b }) in_range
        ∙ sym (ap (λ (t : Bool). record (content w (plain 120)) { byte = if t then w.background.byte else b }) no_space)

-- a character that isn't in the line's last place
one_added : (w : Window) (g : Grid) (b : ℕ) → 32 ≤ b → b ≤ 126 → w.col + 1 < w.area.cols → added (plain b) (canvas g w) ≡ done (filled (cells_of w w.row w.col 1) (content w (plain b)) g) (record w { col = w.col + 1 })
one_added w g b low high room =
    let ascii : nat_lt b 128 ≡ true = grind (arith, nat_tests) in
    let newline : (b == 10) ≡ false = grind (arith, nat_tests) in
    let tab : (b == 9) ≡ false = grind (arith, nat_tests) in
    let back : (b == 8) ≡ false = grind (arith, nat_tests) in
    let return : (b == 13) ≡ false = grind (arith, nat_tests) in
    let control : (nat_lt b 32 || (b == 127)) ≡ false = grind (arith, nat_tests) in
    let within : nat_lt (w.col + 1) w.area.cols ≡ true = grind (arith, nat_tests) in
    rw (ascii, newline, tab, back, return, control, within) refl

-- the line of a grid into which a byte was written, and then the rest
next_written : (g h : Grid) (f : ℕ → Content) (r j k b : ℕ) (bs : List ℕ) → r < length g → h ≡ set g r (set (line_at g r) j (f b)) → k ≡ j + 1 →
    set h r (cells_written f k bs (line_at h r)) ≡ set g r (cells_written f j (b ∷ bs) (line_at g r))
next_written g h f r j k b bs lt e next =
    let line : List Content = set (line_at g r) j (f b) in
    ap (λ (x : Grid). set x r (cells_written f k bs (line_at x r))) e
    ∙ ap (λ (l : List Content). set (set g r line) r (cells_written f k bs l)) (get_or-set_same g r line [] lt)
    ∙ set-set g r line (cells_written f k bs line)
    ∙ ap (λ (n : ℕ). set g r (cells_written f n bs line)) next

pub run_written : (text : List ℕ) (w : Window) (g : Grid) → ((k : ℕ) → k < length text → IsPrinted (get_or text k 0)) → w.col + length text < w.area.cols → w.area.top + w.row < length g →
    done (set g (w.area.top + w.row) (cells_written (inked w) (w.area.left + w.col) text (line_at g (w.area.top + w.row)))) (record w { col = w.col + length text }) ≡ added_all text (canvas g w)
run_written [] w g printed room lt =
    let r : ℕ = w.area.top + w.row in
    ap (λ (x : Grid). done x (record w { col = w.col + 0 })) (set-get_or g r [])
    ∙ ap (λ (n : ℕ). done g (record w { col = n })) (omega arith)
run_written (b ∷ bs) w g printed room lt =
    let r : ℕ = w.area.top + w.row in
    let byte : IsPrinted b = printed 0 (omega arith) in
    let v : Window = record w { col = w.col + 1 } in
    let h : Grid = filled (cells_of w w.row w.col 1) (content w (plain b)) g in
    let line : List Content = set (line_at g r) (w.area.left + w.col) (inked w b) in
    let here : h ≡ set g r line =
    sym (set_is_filled r (w.area.left + w.col) (content w (plain b)) g lt)
    ∙ ap (λ (x : Content). set g r (set (line_at g r) (w.area.left + w.col) x)) (sym (byte_inked w b byte.0 byte.1)) in
    let long : length h ≡ length g = ap length here ∙ length-set g r line in
    let rest = run_written bs v h (λ k near. printed (suc k) (omega (arith, near))) (omega (arith, room)) (omega (arith, long, lt)) in
    ap (λ (x : Grid). done x (record w { col = w.col + length (b ∷ bs) })) (sym (next_written g h (inked w) r (w.area.left + w.col) (w.area.left + (w.col + 1)) b bs lt here (omega arith)))
    ∙ ap (λ (n : ℕ). done (set h r (cells_written (inked w) (w.area.left + (w.col + 1)) bs (line_at h r))) (record w { col = n })) (omega arith)
    ∙ rest
    ∙ sym (ap (λ (x : CanvasStep). and_then x (λ t. added_all bs t)) (one_added w g b byte.0 byte.1 (omega (arith, room))))

-- ---- the grid keeps its shape
length-cells_written : (f : ℕ → Content) (j : ℕ) (text : List ℕ) (line : List Content) → length (cells_written f j text line) ≡ length line
length-cells_written f j [] line = refl
length-cells_written f j (b ∷ bs) line = length-cells_written f (j + 1) bs (set line j (f b)) ∙ length-set line j (f b)

shape_of-set : (g : Grid) (r : ℕ) (l : List Content) → length l ≡ length (line_at g r) → shape_of (set g r l) ≡ shape_of g
shape_of-set [] r l e = refl
shape_of-set (x ∷ xs) zero l e = ap (λ (n : ℕ). n ∷ shape_of xs) e
shape_of-set (x ∷ xs) (suc r) l e = ap (λ (ns : List ℕ). length x ∷ ns) (shape_of-set xs r l e)

pub shape_of-run : (g : Grid) (r : ℕ) (f : ℕ → Content) (j : ℕ) (text : List ℕ) → shape_of (set g r (cells_written f j text (line_at g r))) ≡ shape_of g
shape_of-run g r f j text = shape_of-set g r (cells_written f j text (line_at g r)) (length-cells_written f j text (line_at g r))

-- ---- one part of a string after another
then_then : (x : CanvasStep) (f h : Canvas → CanvasStep) → and_then (and_then x f) h ≡ and_then x (λ t. and_then (f t) h)
then_then (s, Ok u) f h = refl
then_then (s, Err e) f h = refl

added_all-append : (xs ys : List ℕ) (s : Canvas) → added_all (xs ++ ys) s ≡ and_then (added_all xs s) (λ t. added_all ys t)
added_all-append [] ys s = refl
added_all-append (b ∷ bs) ys s =
    let rest : (t : Canvas) → added_all (bs ++ ys) t ≡ and_then (added_all bs t) (λ u. added_all ys u) = λ t. added_all-append bs ys t in
    same_then (added (plain b) s) (λ t. added_all (bs ++ ys) t) (λ t. and_then (added_all bs t) (λ u. added_all ys u)) rest
    ∙ sym (then_then (added (plain b) s) (λ t. added_all bs t) (λ t. added_all ys t))
  where
    same_then : (x : CanvasStep) (f h : Canvas → CanvasStep) → ((t : Canvas) → f t ≡ h t) → and_then x f ≡ and_then x h
    same_then (t, Ok u) f h e = e t
    same_then (t, Err x) f h e = refl

-- the rest of a string whose first part was added
pub front_added : (text : List ℕ) (n : ℕ) (s t : Canvas) → (t, Ok tt) ≡ added_all (take n text) s → added_all (drop n text) t ≡ added_all text s
front_added text n s t e =
    ap (λ (x : CanvasStep). and_then x (λ u. added_all (drop n text) u)) e
    ∙ sym (added_all-append (take n text) (drop n text) s)
    ∙ ap (λ (bs : List ℕ). added_all bs s) (take-append-drop n text)
