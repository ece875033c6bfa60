-- The result of making, moving or deleting a window is a desk.
use Rattle.std.proofs.Common.{◌≡◌, ◌≢◌, ℕ, ◌+◌, ◌<◌, ◌≤◌, List, [], ◌∷◌, Option, Some, None, IsSome, length, get_or, set, refl, sym, ap, ◌∙◌, subst, inl, inr, arith, false, true, Bool, replicate, zero, suc, ◌||◌, ◌==◌, ◌&&◌, not}
use Rattle.std.proofs.lemmas.Bool.{cases_eq}
use Rattle.std.proofs.lemmas.Bool.Decides.{nat_tests}
use Rattle.std.proofs.lemmas.Bool.{cases_lt}
use Rattle.std.proofs.lemmas.List.{get_or-set_same, get_or-set_other, length-set, length-replicate, get_or-replicate, get_or_past}
use Rattle.grids.specs.declared.areas.Area.{Area}
use Rattle.cur_drawing.specs.declared.windows.Window.{Window}
use Rattle.cur_drawing.specs.Cells.{space}
use Rattle.cur_drawing.specs.Grids.{Grid, Fits, line_at, shape_of, blank}
use Rattle.cur_drawing.specs.Windows.{IsWindow, fresh}
use Rattle.cur_drawing.specs.Calls.{IsCanvas}
use Rattle.cur_drawing.proofs.DrawingFacts.{fits_same}
use Rattle.cur_screens.specs.declared.slots.Slot.{Slot}
use Rattle.cur_screens.specs.declared.slots.Origin.{Origin}
use Rattle.cur_windows.specs.Desks.{State, grid_at, origin_at, window_at, IsWhole, IsPlaced, IsFramed, IsDesk, on_screen}
use Rattle.cur_screens.specs.Slots.{whole_area}
use Rattle.cur_windows.specs.Creations.{IsInFrame, root_added, inside, has_child, is_child, is_parent}
use Rattle.cur_drawing.specs.Spans.{IsAreaWithin}
use Rattle.cur_windows.proofs.Closures.{at_written, placed_same, whole_same, some_kept, some_inj, is_some}

pub no_some : (o : Option Slot) → o ≡ None → IsSome o → (A : Type 0) → A
no_some None e is A = absurd cc
no_some (Some s) e is A = absurd cc

-- a window is written at the number n, and those of other numbers stay
windows_other : (ws : List (Option Slot)) (n m : ℕ) (o : Option Slot) → m ≢ n → get_or (set ws n o) m None ≡ get_or ws m None
windows_other ws n m o other = get_or-set_other ws n m o None other

pub blank_length : (rows cols : ℕ) → length (blank rows cols) ≡ rows
blank_length rows cols = length-replicate rows (replicate cols space)

pub blank_line : (rows cols i : ℕ) → i < rows → length (line_at (blank rows cols) i) ≡ cols
blank_line rows cols i lt = ap length (get_or-replicate rows i (replicate cols space) [] lt) ∙ length-replicate cols space

pub blank_whole : (rows cols : ℕ) → IsWhole (whole_area rows cols) (blank rows cols)
blank_whole rows cols = record {
  top = refl;
  left = refl;
  rows = blank_length rows cols;
  cols = λ i lt. blank_line rows cols i (omega (arith, blank_length rows cols));
}

pub blank_fits : (rows cols : ℕ) → Fits (whole_area rows cols) (blank rows cols)
blank_fits rows cols = record {
  rows = omega (arith, blank_length rows cols);
  cols = λ i lt. (let e = blank_line rows cols i (omega (arith, blank_length rows cols)) in omega arith);
}

pub root_added_desk : (d : State) (n : ℕ) (g : Grid) (o : Origin) (w : Window) → IsDesk d → n < 64 → window_at d n ≡ None → IsCanvas g w → IsWhole w.area g → (o.pad ≡ false → IsInFrame d.rows d.cols o g) →
    IsDesk (root_added d n g o w)
root_added_desk d n g o w is lt free canvas whole frame =
    let new : Slot = record { root = n; parent = None; window = w } in
    let e : State = root_added d n g o w in
    let lt2 : n < length d.windows = omega (arith, is.windows) in
    let grid : grid_at e n ≡ g = get_or-set_same d.grids n g [] (omega (arith, is.grids)) in
    let origin : origin_at e n ≡ o = get_or-set_same d.origins n o _ (omega (arith, is.origins)) in
    let here : IsPlaced e n new = record {
      root = lt;
      canvas = subst (λ (x : Grid). IsCanvas x w) (sym grid) canvas;
      made = is_some new (window_at e n) (get_or-set_same d.windows n (Some new) None lt2);
      own = λ none. refl;
      whole = λ none. subst (λ (x : Grid). IsWhole w.area x) (sym grid) whole;
    } in
    record {
      rows = is.rows;
      cols = is.cols;
      grids = length-set d.grids n g ∙ is.grids;
      origins = length-set d.origins n o ∙ is.origins;
      windows = length-set d.windows n (Some new) ∙ is.windows;
      screen = some_kept d.windows n 0 new lt2 is.screen;
      placed = λ m t at. elim (cases_eq m n) [
        | inl eq ↦ at_written e d.windows n m new t lt2 eq at here
        | inr other ↦ (let was : IsPlaced d m t = is.placed m t (sym (get_or-set_other d.windows n m (Some new) None other) ∙ at) in
            elim (cases_eq t.root n) [
              | inl eq ↦ no_some (window_at d t.root) (ap (window_at d) eq ∙ free) was.made (IsPlaced e m t)
              | inr apart ↦ placed_same d e m t (ap shape_of (get_or-set_other d.grids n t.root g [] apart)) (some_kept d.windows n t.root new lt2) was
            ])
      ];
      framed = λ k window. elim (cases_eq k n) [
        | inl eq ↦ (let at : origin_at e k ≡ o = ap (origin_at e) eq ∙ origin in let on : grid_at e k ≡ g = ap (grid_at e) eq ∙ grid in
            let fits : IsInFrame d.rows d.cols o g = frame (sym (ap (λ (x : Origin). x.pad) at) ∙ window) in
            let fits2 : IsInFrame d.rows d.cols (origin_at e k) (grid_at e k) = subst (λ (x : Origin). IsInFrame d.rows d.cols x (grid_at e k)) (sym at) (subst (λ (x : Grid). IsInFrame d.rows d.cols o x) (sym on) fits) in
            record { rows = fits2.high; cols = fits2.wide })
        | inr other ↦ (let at : origin_at e k ≡ origin_at d k = get_or-set_other d.origins n k o _ other in let on : grid_at e k ≡ grid_at d k = get_or-set_other d.grids n k g [] other in
            let was : IsFramed d k = is.framed k (sym (ap (λ (x : Origin). x.pad) at) ∙ window) in
            let fits : IsInFrame d.rows d.cols (origin_at d k) (grid_at d k) = record { high = was.rows; wide = was.cols } in
            let fits2 : IsInFrame d.rows d.cols (origin_at e k) (grid_at e k) = subst (λ (x : Origin). IsInFrame d.rows d.cols x (grid_at e k)) (sym at) (subst (λ (x : Grid). IsInFrame d.rows d.cols (origin_at d k) x) (sym on) fits) in
            record { rows = fits2.high; cols = fits2.wide })
      ];
    }

-- a new part of a window
pub subwindow_added_desk : (d : State) (n p r : ℕ) (w : Window) → IsDesk d → n < 64 → window_at d n ≡ None → r < 64 → IsSome (window_at d r) → IsCanvas (grid_at d r) w →
    IsDesk (record d { windows = set d.windows n (Some (record { root = r; parent = Some p; window = w })) })
subwindow_added_desk d n p r w is lt free small made canvas =
    let new : Slot = record { root = r; parent = Some p; window = w } in
    let e : State = record d { windows = set d.windows n (Some new) } in
    let lt2 : n < length d.windows = omega (arith, is.windows) in
    let here : IsPlaced e n new = record {
      root = small;
      canvas = canvas;
      made = some_kept d.windows n r new lt2 made;
      own = λ none. absurd cc;
      whole = λ none. absurd cc;
    } in
    record {
      rows = is.rows;
      cols = is.cols;
      grids = is.grids;
      origins = is.origins;
      windows = length-set d.windows n (Some new) ∙ is.windows;
      screen = some_kept d.windows n 0 new lt2 is.screen;
      placed = λ m t at. elim (cases_eq m n) [
        | inl eq ↦ at_written e d.windows n m new t lt2 eq at here
        | inr other ↦ placed_same d e m t refl (some_kept d.windows n t.root new lt2) (is.placed m t (sym (get_or-set_other d.windows n m (Some new) None other) ∙ at))
      ];
      framed = λ k window. (let was : IsFramed d k = is.framed k window in record { rows = was.rows; cols = was.cols });
    }

-- a part of a part
pub part_fits : (g : Grid) (w : Window) (a : Area) → IsCanvas g w → IsAreaWithin w.area.rows w.area.cols a → Fits (inside w.area a) g
part_fits g w a is part = record {
  rows = omega (arith, is.fits.rows, part.bottom);
  cols = λ i lt. (let fit = is.fits.cols i lt in omega (arith, part.right));
}

new_area : (a : Area) (w : Window) → w ≡ fresh (whole_area a.rows a.cols) → w.area ≡ whole_area a.rows a.cols
new_area a w made = ap (λ (v : Window). v.area) made

-- a new window on a new grid
pub new_canvas : (g : Grid) (a : Area) (w : Window) → g ≡ blank a.rows a.cols → w ≡ fresh (whole_area a.rows a.cols) → IsWindow w → IsCanvas g w
new_canvas g a w grid made legal = record {
  window = legal;
  fits = subst (λ (b : Area). Fits b g) (sym (new_area a w made)) (subst (λ (x : Grid). Fits (whole_area a.rows a.cols) x) (sym grid) (blank_fits a.rows a.cols));
}

pub new_whole : (g : Grid) (a : Area) (w : Window) → g ≡ blank a.rows a.cols → w ≡ fresh (whole_area a.rows a.cols) → IsWhole w.area g
new_whole g a w grid made = subst (λ (b : Area). IsWhole b g) (sym (new_area a w made)) (subst (λ (x : Grid). IsWhole (whole_area a.rows a.cols) x) (sym grid) (blank_whole a.rows a.cols))

pub new_frame : (height width : ℕ) (g : Grid) (a : Area) → g ≡ blank a.rows a.cols → IsAreaWithin height width a → IsInFrame height width (on_screen a.top a.left false) g
new_frame height width g a grid part =
    let high : length g ≡ a.rows = ap length grid ∙ blank_length a.rows a.cols in record {
      high = omega (arith, part.bottom);
      wide = λ i small. (let line : length (line_at g i) ≡ a.cols = ap (λ (x : Grid). length (line_at x i)) grid ∙ blank_line a.rows a.cols i (omega arith) in omega (arith, part.right));
    }

pub root_added_new : (d now : State) (n : ℕ) (g : Grid) (o : Origin) (w : Window) → d ≡ now → IsDesk d → n < 64 → window_at now n ≡ None → IsCanvas g w → IsWhole w.area g → (o.pad ≡ false → IsInFrame now.rows now.cols o g) →
    IsDesk (root_added d n g o w)
root_added_new d now n g o w e is lt free canvas whole frame =
    root_added_desk d n g o w is lt (ap (λ (x : State). window_at x n) e ∙ free) canvas whole (subst (λ (x : State). o.pad ≡ false → IsInFrame x.rows x.cols o g) (sym e) frame)

-- ---- copies
pub copy_fits : (rows cols : ℕ) (g : Grid) → g ≡ blank rows cols → Fits (whole_area rows cols) g
copy_fits rows cols g e = subst (λ (x : Grid). Fits (whole_area rows cols) x) (sym e) (blank_fits rows cols)

pub copy_canvas : (s : Window) (g h : Grid) → IsWindow s → g ≡ blank s.area.rows s.area.cols → shape_of h ≡ shape_of g → IsCanvas h (record s { area = whole_area s.area.rows s.area.cols })
copy_canvas s g h is e shape = record {
  window = record { row = is.row; col = is.col; region = is.region; bottom = is.bottom; pair = is.pair; height = omega (arith, is.height); width = omega (arith, is.width) };
  fits = fits_same (whole_area s.area.rows s.area.cols) g h shape (copy_fits s.area.rows s.area.cols g e);
}

pub copy_whole : (rows cols : ℕ) (g h : Grid) → g ≡ blank rows cols → shape_of h ≡ shape_of g → IsWhole (whole_area rows cols) h
copy_whole rows cols g h e shape = whole_same (whole_area rows cols) g h shape (subst (λ (x : Grid). IsWhole (whole_area rows cols) x) (sym e) (blank_whole rows cols))

pub copy_frame : (height width rows cols : ℕ) (o : Origin) (h : Grid) → IsWhole (whole_area rows cols) h → o.top + rows ≤ height → o.left + cols ≤ width → IsInFrame height width o h
copy_frame height width rows cols o h whole top left = record {
  high = omega (arith, whole.rows);
  wide = λ i lt. (let line = whole.cols i lt in omega arith);
}

pub subwindow_added_new : (d now : State) (n p : ℕ) (s : Slot) (a : Area) (w : Window) → d ≡ now → IsDesk d → n < 64 → window_at now n ≡ None → IsPlaced now p s → IsAreaWithin s.window.area.rows s.window.area.cols a →
    w.area ≡ inside s.window.area a → IsWindow w → IsDesk (record d { windows = set d.windows n (Some (record { root = s.root; parent = Some p; window = w })) })
subwindow_added_new d now n p s a w e is lt free placed part area legal =
    let here : IsPlaced d p s = subst (λ (x : State). IsPlaced x p s) (sym e) placed in
    subwindow_added_desk d n p s.root w is lt (ap (λ (x : State). window_at x n) e ∙ free) here.root here.made
    (record { window = legal; fits = subst (λ (b : Area). Fits b (grid_at d s.root)) (sym area) (part_fits (grid_at d s.root) s.window a here.canvas part) })

-- ---- deleting
root_apart : (n k r : ℕ) (p q : Bool) → ((not (k == n) && (p || (r == n))) || q) ≡ false → k ≢ n → r ≢ n
root_apart n k r p q h apart e = grind (arith, nat_tests)

or_right : (p q : Bool) → (p || q) ≡ false → q ≡ false
or_right true q h = absurd cc
or_right false q h = h

-- without children, a window shares its grid with no other
no_child : (n k : ℕ) (ws : List (Option Slot)) (i : ℕ) (t : Slot) → has_child n k ws ≡ false → get_or ws i None ≡ Some t → k + i ≢ n → t.root ≢ n
no_child n k [] i t h at apart = absurd cc
no_child n k (None ∷ os) zero t h at apart = absurd cc
no_child n k (Some s ∷ os) zero t h at apart =
    let same : s ≡ t = some_inj s t at in
    λ e. root_apart n k s.root (is_parent n s.parent) (has_child n (k + 1) os) h (λ e2. apart (omega (arith, e2))) (ap (λ (x : Slot). x.root) same ∙ e)
no_child n k (o ∷ os) (suc i) t h at apart = no_child n (k + 1) os i t (or_right (is_child n k o) (has_child n (k + 1) os) h) at (λ e. apart (omega (arith, e)))

pub deleted_desk : (d now : State) (n : ℕ) (g : Grid) → d ≡ now → IsDesk d → n < 64 → 0 < n → has_child n 0 now.windows ≡ false → g ≡ [] →
    IsDesk (record d { grids = set d.grids n g; windows = set d.windows n None })
deleted_desk d now n g same is lt low none empty =
    let e : State = record d { grids = set d.grids n g; windows = set d.windows n None } in
    let lt2 : n < length d.windows = omega (arith, is.windows) in
    let here : has_child n 0 d.windows ≡ false = ap (λ (x : State). has_child n 0 x.windows) same ∙ none in
    record {
      rows = is.rows;
      cols = is.cols;
      grids = length-set d.grids n g ∙ is.grids;
      origins = is.origins;
      windows = length-set d.windows n None ∙ is.windows;
      screen = rw (get_or-set_other d.windows n 0 None None (λ zero. omega (arith, zero))) is.screen;
      placed = λ m t at. elim (cases_eq m n) [
        | inl eq ↦ (let read : get_or (set d.windows n None) m None ≡ None = ap (λ (k : ℕ). get_or (set d.windows n None) k None) eq ∙ get_or-set_same d.windows n None None lt2 in
            absurd (let no : None ≡ Some t = sym read ∙ at in cc))
        | inr other ↦ (let old : window_at d m ≡ Some t = sym (get_or-set_other d.windows n m None None other) ∙ at in
            let apart : t.root ≢ n = no_child n 0 d.windows m t here old (λ eq. other (omega (arith, eq))) in
            placed_same d e m t (ap shape_of (get_or-set_other d.grids n t.root g [] apart)) (λ made. rw (get_or-set_other d.windows n t.root None None apart) made) (is.placed m t old))
      ];
      framed = λ k window. (let was : IsFramed d k = is.framed k window in elim (cases_eq k n) [
        | inl eq ↦ (let on : grid_at e k ≡ [] = ap (grid_at e) eq ∙ get_or-set_same d.grids n g [] (omega (arith, is.grids)) ∙ empty in
            let none2 : length (grid_at e k) ≡ 0 = ap length on in record {
              rows = omega (arith, was.rows);
              cols = λ i small. absurd (omega arith);
            })
        | inr other ↦ (let on : grid_at e k ≡ grid_at d k = get_or-set_other d.grids n k g [] other in
            let fits : IsInFrame d.rows d.cols (origin_at d k) (grid_at e k) = subst (λ (x : Grid). IsInFrame d.rows d.cols (origin_at d k) x) (sym on) (record { high = was.rows; wide = was.cols }) in
            record { rows = fits.high; cols = fits.wide })
      ]);
    }

-- ---- moving
pub moved_desk : (d now : State) (n : ℕ) (s : Slot) (top left : ℕ) → d ≡ now → IsDesk d → IsPlaced now n s → s.parent ≡ None → top + s.window.area.rows ≤ d.rows → left + s.window.area.cols ≤ d.cols →
    IsDesk (record d { origins = set d.origins s.root (on_screen top left false) })
moved_desk d now n s top left same is placed own high wide =
    let o : Origin = on_screen top left false in
    let e : State = record d { origins = set d.origins s.root o } in
    let here : IsPlaced d n s = subst (λ (x : State). IsPlaced x n s) (sym same) placed in
    let whole : IsWhole s.window.area (grid_at d s.root) = here.whole own in
    let rows : d.rows ≡ now.rows = ap (λ (x : State). x.rows) same in
    let cols : d.cols ≡ now.cols = ap (λ (x : State). x.cols) same in
    record {
      rows = is.rows;
      cols = is.cols;
      grids = is.grids;
      origins = length-set d.origins s.root o ∙ is.origins;
      windows = is.windows;
      screen = is.screen;
      placed = λ m t at. placed_same d e m t refl (λ made. made) (is.placed m t at);
      framed = λ k window. elim (cases_eq k s.root) [
        | inl eq ↦ (let at : origin_at e k ≡ o = ap (origin_at e) eq ∙ get_or-set_same d.origins s.root o _ (omega (arith, is.origins, here.root)) in
            let grid : grid_at d k ≡ grid_at d s.root = ap (grid_at d) eq in
            let fits : IsInFrame d.rows d.cols o (grid_at d s.root) = record {
              high = omega (arith, whole.rows);
              wide = λ i small. (let line = whole.cols i small in omega arith);
            } in
            let fits2 : IsInFrame d.rows d.cols (origin_at e k) (grid_at d k) = subst (λ (x : Origin). IsInFrame d.rows d.cols x (grid_at d k)) (sym at) (subst (λ (x : Grid). IsInFrame d.rows d.cols o x) (sym grid) fits) in
            record { rows = fits2.high; cols = fits2.wide })
        | inr other ↦ (let at : origin_at e k ≡ origin_at d k = get_or-set_other d.origins s.root k o _ other in
            let was : IsFramed d k = is.framed k (sym (ap (λ (x : Origin). x.pad) at) ∙ window) in
            let fits : IsInFrame d.rows d.cols (origin_at e k) (grid_at d k) = subst (λ (x : Origin). IsInFrame d.rows d.cols x (grid_at d k)) (sym at) (record { high = was.rows; wide = was.cols }) in
            record { rows = fits.high; cols = fits.wide })
      ];
    }

-- ---- a new desk
all_alike : {A : Type 0} (k i : ℕ) (x : A) → get_or (replicate k x) i x ≡ x
all_alike k i x = elim (cases_lt i k) [
  | inl lt ↦ get_or-replicate k i x x lt
  | inr past ↦ get_or_past (replicate k x) i x (omega (arith, length-replicate k x))
]

pub new_is_desk : (k rows cols : ℕ) (g : Grid) (w : Window) → k ≡ 64 → rows ≤ 200 → cols ≤ 500 → g ≡ blank rows cols → w ≡ fresh (whole_area rows cols) → IsWindow w →
    IsDesk (record { rows = rows; cols = cols; grids = set (replicate k []) 0 g; origins = replicate k (on_screen 0 0 false); windows = set (replicate k None) 0 (Some (record { root = 0; parent = None; window = w })) })
new_is_desk k rows cols g w k64 small narrow grid made legal =
    let new : Slot = record { root = 0; parent = None; window = w } in
    let e : State = record { rows = rows; cols = cols; grids = set (replicate k []) 0 g; origins = replicate k (on_screen 0 0 false); windows = set (replicate k None) 0 (Some new) } in
    let ws : List (Option Slot) = replicate k None in
    let gs : List Grid = replicate k [] in
    let lenw : length ws ≡ k = length-replicate k None in
    let leng : length gs ≡ k = length-replicate k [] in
    let first : window_at e 0 ≡ Some new = get_or-set_same ws 0 (Some new) None (omega arith) in
    let on : grid_at e 0 ≡ g = get_or-set_same gs 0 g [] (omega arith) in
    let area : w.area ≡ whole_area rows cols = ap (λ (v : Window). v.area) made in
    let fits : Fits w.area g = subst (λ (b : Area). Fits b g) (sym area) (subst (λ (x : Grid). Fits (whole_area rows cols) x) (sym grid) (blank_fits rows cols)) in
    let whole : IsWhole w.area g = subst (λ (b : Area). IsWhole b g) (sym area) (subst (λ (x : Grid). IsWhole (whole_area rows cols) x) (sym grid) (blank_whole rows cols)) in
    let here : IsPlaced e 0 new = record {
      root = omega arith;
      canvas = subst (λ (x : Grid). IsCanvas x w) (sym on) (record { window = legal; fits = fits });
      made = is_some new (window_at e 0) first;
      own = λ none. refl;
      whole = λ none. subst (λ (x : Grid). IsWhole w.area x) (sym on) whole;
    } in
    record {
      rows = small;
      cols = narrow;
      grids = length-set gs 0 g ∙ leng ∙ k64;
      origins = length-replicate k (on_screen 0 0 false) ∙ k64;
      windows = length-set ws 0 (Some new) ∙ lenw ∙ k64;
      screen = is_some new (window_at e 0) first;
      placed = λ m t at. elim (cases_eq m 0) [
        | inl eq ↦ (let read : window_at e m ≡ Some new = ap (window_at e) eq ∙ first in
            subst (λ (t : Slot). IsPlaced e m t) (some_inj new t (sym read ∙ at)) (subst (λ (k : ℕ). IsPlaced e k new) (sym eq) here))
        | inr other ↦ absurd (let no : None ≡ Some t = sym (get_or-set_other ws 0 m (Some new) None other ∙ all_alike k m None) ∙ at in cc)
      ];
      framed = λ i window. (let at : origin_at e i ≡ on_screen 0 0 false = all_alike k i (on_screen 0 0 false) in
          let top = ap (λ (x : Origin). x.top) at in let left = ap (λ (x : Origin). x.left) at in
          elim (cases_eq i 0) [
            | inl eq ↦ (let here2 : grid_at e i ≡ blank rows cols = ap (grid_at e) eq ∙ on ∙ grid in
                let high : length (grid_at e i) ≡ rows = ap length here2 ∙ blank_length rows cols in record {
                  rows = omega arith;
                  cols = λ j lt. (let line : length (line_at (grid_at e i) j) ≡ cols = ap (λ (x : Grid). length (line_at x j)) here2 ∙ blank_line rows cols j (omega arith) in omega arith);
                })
            | inr other ↦ (let here2 : grid_at e i ≡ [] = get_or-set_other gs 0 i g [] other ∙ all_alike k i [] in
                let none : length (grid_at e i) ≡ 0 = ap length here2 in record { rows = omega arith; cols = λ j lt. absurd (omega arith) })
          ]);
    }

pub new_from : (k rows cols : ℕ) (gs : List Grid) (os : List Origin) (ws : List (Option Slot)) (g : Grid) (w : Window) → k ≡ 64 → gs ≡ replicate k [] → os ≡ replicate k (on_screen 0 0 false) → ws ≡ replicate k None →
    rows ≤ 200 → cols ≤ 500 → g ≡ blank rows cols → w ≡ fresh (whole_area rows cols) → IsWindow w →
    IsDesk (record { rows = rows; cols = cols; grids = set gs 0 g; origins = os; windows = set ws 0 (Some (record { root = 0; parent = None; window = w })) })
new_from k rows cols gs os ws g w k64 ge oe we small narrow grid made legal = rw (ge, oe, we) (new_is_desk k rows cols g w k64 small narrow grid made legal)
