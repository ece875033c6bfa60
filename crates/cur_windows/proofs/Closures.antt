-- The result of a call on one window is a desk.
use Rattle.std.proofs.Common.{◌≡◌, ℕ, ◌<◌, List, [], Option, Some, None, IsSome, length, get_or, set, option_map, refl, sym, ap, ◌∙◌, subst, inl, inr, arith, rules}
use Rattle.std.proofs.lemmas.Bool.{cases_eq}
use Rattle.std.proofs.lemmas.List.{get_or-set_same, get_or-set_other, length-set, get_or_default}
use Rattle.grids.specs.declared.areas.Area.{Area}
use Rattle.cur_drawing.specs.declared.windows.Window.{Window}
use Rattle.cur_drawing.specs.Grids.{Grid, Fits, shape_of}
use Rattle.cur_drawing.specs.Windows.{IsWindow}
use Rattle.cur_drawing.specs.Calls.{IsCanvas, IsKept}
use Rattle.cur_drawing.proofs.DrawingFacts.{fits_same, shape_of-line, shape_of-length}
use Rattle.cur_screens.specs.declared.slots.Slot.{Slot}
use Rattle.cur_screens.specs.declared.slots.Origin.{Origin}
use Rattle.cur_windows.specs.Desks.{State, grid_at, in_column, origin_at, window_at, IsWhole, IsPlaced, IsFramed, IsDesk}

pub whole_same : (a : Area) (g h : Grid) → shape_of h ≡ shape_of g → IsWhole a g → IsWhole a h
whole_same a g h e is = record {
  top = is.top;
  left = is.left;
  rows = shape_of-length g h e ∙ is.rows;
  cols = λ i lt. shape_of-line g h i e ∙ is.cols i (let same = shape_of-length g h e in omega arith);
}

pub canvas_moved : (g h : Grid) (w v : Window) → shape_of h ≡ shape_of g → v.area ≡ w.area → IsWindow v → IsCanvas g w → IsCanvas h v
canvas_moved g h w v e same is old = record {
  window = is;
  fits = subst (λ (a : Area). Fits a h) (sym same) (fits_same w.area g h e old.fits);
}

pub framed_same : (d e : State) (k : ℕ) → d.rows ≡ e.rows → d.cols ≡ e.cols → origin_at d k ≡ origin_at e k → shape_of (grid_at e k) ≡ shape_of (grid_at d k) → IsFramed d k → IsFramed e k
framed_same d e k rows cols at shape is = record {
  rows = (let len = shape_of-length (grid_at d k) (grid_at e k) shape in let old = is.rows in let top = ap (λ (o : Origin). o.top) at in omega arith);
  cols = λ i lt. (let len = shape_of-length (grid_at d k) (grid_at e k) shape in let line = shape_of-line (grid_at d k) (grid_at e k) i shape in
      let old = is.cols i (omega arith) in let left = ap (λ (o : Origin). o.left) at in omega arith);
}

pub some_inj : (s t : Slot) → Some s ≡ Some t → s ≡ t
some_inj s t e = cc

pub is_some : (s : Slot) (o : Option Slot) → o ≡ Some s → IsSome o
is_some s o e = rw (e) search rules

-- a number that names a window still does after a window was written
pub some_kept : (ws : List (Option Slot)) (n k : ℕ) (s : Slot) → n < length ws → IsSome (get_or ws k None) → IsSome (get_or (set ws n (Some s)) k None)
some_kept ws n k s lt is = elim (cases_eq k n) [
  | inl same ↦ is_some s (get_or (set ws n (Some s)) k None) (ap (λ (m : ℕ). get_or (set ws n (Some s)) m None) same ∙ get_or-set_same ws n (Some s) None lt)
  | inr other ↦ rw (get_or-set_other ws n k (Some s) None other) is
]

-- the window that is found at the number that was written is the new one
pub at_written : (e : State) (ws : List (Option Slot)) (n m : ℕ) (new t : Slot) → n < length ws → m ≡ n → get_or (set ws n (Some new)) m None ≡ Some t → IsPlaced e n new → IsPlaced e m t
at_written e ws n m new t lt eq at here =
    let read : get_or (set ws n (Some new)) m None ≡ Some new = ap (λ (k : ℕ). get_or (set ws n (Some new)) k None) eq ∙ get_or-set_same ws n (Some new) None lt in
    subst (λ (x : Slot). IsPlaced e m x) (some_inj new t (sym read ∙ at)) (subst (λ (k : ℕ). IsPlaced e k new) (sym eq) here)

pub desk_kept : (d : State) (n : ℕ) (s : Slot) (w : Window) (gs : List Grid) → IsDesk d → n < 64 → window_at d n ≡ Some s → length gs ≡ 64 →
    ((k : ℕ) → shape_of (get_or gs k []) ≡ shape_of (grid_at d k)) → w.area ≡ s.window.area → IsWindow w →
    IsDesk (record d { grids = gs; windows = set d.windows n (Some (record s { window = w })) })
desk_kept d n s w gs is lt there len shape same legal =
    let new : Slot = record s { window = w } in
    let e : State = record d { grids = gs; windows = set d.windows n (Some new) } in
    let lt2 : n < length d.windows = omega (arith, is.windows) in
    let old : IsPlaced d n s = is.placed n s there in
    let here : IsPlaced e n new = record {
      root = old.root;
      canvas = canvas_moved (grid_at d s.root) (grid_at e s.root) s.window w (shape s.root) same legal old.canvas;
      made = some_kept d.windows n s.root new lt2 old.made;
      own = old.own;
      whole = λ none. subst (λ (a : Area). IsWhole a (grid_at e s.root)) (sym same) (whole_same s.window.area (grid_at d s.root) (grid_at e s.root) (shape s.root) (old.whole none));
    } in
    record {
      rows = is.rows;
      cols = is.cols;
      grids = len;
      origins = is.origins;
      windows = length-set d.windows n (Some new) ∙ is.windows;
      screen = some_kept d.windows n 0 new lt2 is.screen;
      placed = λ m t at. elim (cases_eq m n) [
        | inl eq ↦ at_written e d.windows n m new t lt2 eq at here
        | inr other ↦ (let was : IsPlaced d m t = is.placed m t (sym (get_or-set_other d.windows n m (Some new) None other) ∙ at) in record {
          root = was.root;
          canvas = record { window = was.canvas.window; fits = fits_same t.window.area (grid_at d t.root) (grid_at e t.root) (shape t.root) was.canvas.fits };
          made = some_kept d.windows n t.root new lt2 was.made;
          own = was.own;
          whole = λ none. whole_same t.window.area (grid_at d t.root) (grid_at e t.root) (shape t.root) (was.whole none);
        })
      ];
      framed = λ k window. framed_same d e k refl refl refl (shape k) (is.framed k window);
    }

-- one grid is written, and keeps its shape
pub shape_kept : (gs : List Grid) (r k : ℕ) (g : Grid) → r < length gs → shape_of g ≡ shape_of (get_or gs r []) → shape_of (get_or (set gs r g) k []) ≡ shape_of (get_or gs k [])
shape_kept gs r k g lt e = elim (cases_eq k r) [
  | inl same ↦ rw (same) (ap shape_of (get_or-set_same gs r g [] lt) ∙ e)
  | inr other ↦ ap shape_of (get_or-set_other gs r k g [] other)
]

-- a call on a window alone
pub closes_window : (d now : State) (n : ℕ) (s : Slot) (w : Window) → d ≡ now → IsDesk d → (n < 64) × (window_at now n ≡ Some s) → w.area ≡ s.window.area → IsWindow w →
    IsDesk (record d { windows = set d.windows n (Some (record s { window = w })) })
closes_window d now n s w e is there same legal =
    desk_kept d n s w d.grids is there.0 (ap (λ (x : State). window_at x n) e ∙ there.1) is.grids (λ k. refl) same legal

-- a call on a window and its grid
pub closes_canvas : (d now : State) (n : ℕ) (s : Slot) (w : Window) (g h : Grid) → d ≡ now → IsDesk d → (n < 64) × (window_at now n ≡ Some s) → g ≡ get_or d.grids s.root g → IsKept g s.window h w →
    IsDesk (record d { grids = set d.grids s.root h; windows = set d.windows n (Some (record s { window = w })) })
closes_canvas d now n s w g h e is there at kept =
    let there2 : window_at d n ≡ Some s = ap (λ (x : State). window_at x n) e ∙ there.1 in
    let old : IsPlaced d n s = is.placed n s there2 in
    let lt : s.root < length d.grids = omega (arith, is.grids, old.root) in
    let read : g ≡ get_or d.grids s.root [] = at ∙ get_or_default d.grids s.root g [] lt in
    desk_kept d n s w (set d.grids s.root h) is there.0 there2 (length-set d.grids s.root h ∙ is.grids)
    (λ k. shape_kept d.grids s.root k h lt (kept.shape ∙ ap shape_of read)) kept.area kept.canvas.window

-- the window's cursor was moved in its place
pub column_set : (d now : State) (n col : ℕ) (s : Slot) (was o : Option Slot) → d ≡ now → IsDesk d → (n < 64) × (window_at now n ≡ Some s) → was ≡ get_or d.windows n was → o ≡ option_map (in_column col) was → o ≡ Some (in_column col s)
column_set d now n col s was o e is there read made =
    let lt : n < length d.windows = omega (arith, is.windows, there.0) in
    let found : was ≡ Some s = read ∙ get_or_default d.windows n was None lt ∙ ap (λ (x : State). window_at x n) e ∙ there.1 in
    made ∙ ap (λ (x : Option Slot). option_map (in_column col) x) found

pub closes_moved : (d now : State) (n : ℕ) (s : Slot) (w : Window) (g h : Grid) (o : Option Slot) → o ≡ Some (record s { window = w }) → d ≡ now → IsDesk d → (n < 64) × (window_at now n ≡ Some s) → g ≡ get_or d.grids s.root g → IsKept g s.window h w →
    IsDesk (record d { grids = set d.grids s.root h; windows = set d.windows n o })
closes_moved d now n s w g h o is e desk there at kept =
    subst (λ (x : Option Slot). IsDesk (record d { grids = set d.grids s.root h; windows = set d.windows n x })) (sym is) (closes_canvas d now n s w g h e desk there at kept)

-- the window found is at its place
pub placed_here : (d now : State) (n : ℕ) (s : Slot) (o : Option Slot) → d ≡ now → IsDesk d → n < 64 → o ≡ get_or d.windows n o → o ≡ Some s → IsPlaced now n s
placed_here d now n s o e is lt read found =
    let lt2 : n < length d.windows = omega (arith, is.windows) in
    subst (λ (x : State). IsPlaced x n s) e (is.placed n s (sym (get_or_default d.windows n o None lt2) ∙ sym read ∙ found))

-- grids alone are written, each of which keeps its shape
pub grids_kept : (d : State) (gs : List Grid) → IsDesk d → length gs ≡ 64 → ((k : ℕ) → shape_of (get_or gs k []) ≡ shape_of (grid_at d k)) → IsDesk (record d { grids = gs })
grids_kept d gs is len shape =
    let e : State = record d { grids = gs } in record {
      rows = is.rows;
      cols = is.cols;
      grids = len;
      origins = is.origins;
      windows = is.windows;
      screen = is.screen;
      placed = λ m t at. (let was : IsPlaced d m t = is.placed m t at in record {
        root = was.root;
        canvas = record { window = was.canvas.window; fits = fits_same t.window.area (grid_at d t.root) (grid_at e t.root) (shape t.root) was.canvas.fits };
        made = was.made;
        own = was.own;
        whole = λ none. whole_same t.window.area (grid_at d t.root) (grid_at e t.root) (shape t.root) (was.whole none);
      });
      framed = λ k window. framed_same d e k refl refl refl (shape k) (is.framed k window);
    }

-- a call that changes only a window's grid
pub closes_grid : (d now : State) (n : ℕ) (s : Slot) (g h : Grid) → d ≡ now → IsDesk d → (n < 64) × (window_at now n ≡ Some s) → g ≡ get_or d.grids s.root g → shape_of h ≡ shape_of g →
    IsDesk (record d { grids = set d.grids s.root h })
closes_grid d now n s g h e is there at shape =
    let old : IsPlaced d n s = is.placed n s (ap (λ (x : State). window_at x n) e ∙ there.1) in
    let lt : s.root < length d.grids = omega (arith, is.grids, old.root) in
    let read : g ≡ get_or d.grids s.root [] = at ∙ get_or_default d.grids s.root g [] lt in
    grids_kept d (set d.grids s.root h) is (length-set d.grids s.root h ∙ is.grids) (λ k. shape_kept d.grids s.root k h lt (shape ∙ ap shape_of read))

-- a change of an option or an attribute moves neither cursor nor region
pub legal_same : (w v : Window) → IsWindow w → v.area ≡ w.area → v.row ≡ w.row → v.col ≡ w.col → v.region_top ≡ w.region_top → v.region_bottom ≡ w.region_bottom → v.pair ≡ w.pair → IsWindow v
legal_same w v is area row col top bottom pair =
    let rows : v.area.rows ≡ w.area.rows = ap (λ (a : Area). a.rows) area in
    let cols : v.area.cols ≡ w.area.cols = ap (λ (a : Area). a.cols) area in
    let high : v.area.top ≡ w.area.top = ap (λ (a : Area). a.top) area in
    let left : v.area.left ≡ w.area.left = ap (λ (a : Area). a.left) area in
    let r = is.row in let c = is.col in let t = is.region in let b = is.bottom in let p = is.pair in let h = is.height in let x = is.width in
    record { row = omega arith; col = omega arith; region = omega arith; bottom = omega arith; pair = omega arith; height = omega arith; width = omega arith }

pub placed_same : (d e : State) (m : ℕ) (t : Slot) → shape_of (grid_at e t.root) ≡ shape_of (grid_at d t.root) → (IsSome (window_at d t.root) → IsSome (window_at e t.root)) → IsPlaced d m t → IsPlaced e m t
placed_same d e m t shape there was = record {
  root = was.root;
  canvas = record { window = was.canvas.window; fits = fits_same t.window.area (grid_at d t.root) (grid_at e t.root) shape was.canvas.fits };
  made = there was.made;
  own = was.own;
  whole = λ none. whole_same t.window.area (grid_at d t.root) (grid_at e t.root) shape (was.whole none);
}
