-- The marks of a session, call by call.
use Rattle.std.proofs.Common.{◌≡◌, ◌==◌, ℕ, List, Bool, true, false, Option, Some, None, Result, ℤ, if◌then◌else◌, refl, sym, ap, ◌∙◌, subst}
use Rattle.cur_drawing.specs.declared.refusals.Refusal.{Refusal}
use Rattle.cur_drawing.specs.Cells.{pair_count}
use Rattle.cur_drawing.specs.Grids.{Grid, cell_at}
use Rattle.cur_screens.specs.Marks.{AreSame, Keeps, Marking}
use Rattle.cur_drawing.specs.Windows.{place_below}
use Rattle.cur_windows.specs.Desks.{State}
use Rattle.cur_screens.specs.Touched.{AreFull, Markings}
use Rattle.cur_windows.specs.TouchedWindows.{KeepsShown, ShowsBut}
use Rattle.cur_screens.specs.VirtualScreen.{Screen, color_or_default, colored, init_pair, init_pair_or_default, initialized}
use Rattle.cur_screens.specs.declared.virtual_screen.Colors.{Colors}
use Rattle.cur_windows.proofs.TouchedFacts.{shows_full}

-- screens of equal cells
pub same_cells : (m : Marking) (v w x y : Screen) → v ≡ x → y ≡ w → AreSame m x.grid w.grid → AreSame m v.grid y.grid
same_cells m v w x y e f same i j u =
    ap (λ (s : Screen). cell_at s.grid i j) e ∙ same i j u ∙ sym (ap (λ (s : Screen). cell_at s.grid i j) f)

pub shown_on : (t : Markings) (d : State) (v w : Grid) → w ≡ v → ShowsBut t d v → ShowsBut t d w
shown_on t d v w e shown = subst (λ (x : Grid). ShowsBut t d x) (sym e) shown

-- all of each grid is marked
pub keeps_full : (t u : Markings) (d e : State) → AreFull u → KeepsShown t d u e
keeps_full t u d e full v shown = shows_full u e v full

-- a screen that was shown
pub same_shown : (m : Marking) (v w x : Screen) → v ≡ x → w.grid ≡ x.grid → AreSame m v.grid w.grid
same_shown m v w x e f i j u = ap (λ (s : Screen). cell_at s.grid i j) e ∙ sym (ap (λ (g : Grid). cell_at g i j) f)

-- if everything is marked, no unmarked cell can differ
pub keeps_all : (m n : Marking) (g h : Grid) → n.all ≡ true → Keeps m g n h
keeps_all m n g h all v same i j u = absurd (let none : n.all ≡ false = u.some in cc)

pub keeps_same : (m : Marking) (g h : Grid) → h ≡ g → Keeps m g m h
keeps_same m g h e v same i j u = same i j u ∙ sym (ap (λ (x : Grid). cell_at x i j) e)

abbrev grid_of : Screen × Result (Unit {0}) Refusal → Grid
grid_of p = p.0.grid

chosen_grid : (b : Bool) (v w : Screen) (x y : Result (Unit {0}) Refusal) → w.grid ≡ v.grid → grid_of (if b then (v, x) else (w, y)) ≡ v.grid
chosen_grid true v w x y e = refl
chosen_grid false v w x y e = e

-- the colors of a pair are no part of the grid
initialized_grid : (p f b : Option ℕ) (v : Screen) → (initialized p f b v).0.grid ≡ v.grid
initialized_grid (Some p) (Some f) (Some b) v = chosen_grid (p == 0) v _ _ _ refl
initialized_grid (Some p) (Some f) None v = refl
initialized_grid (Some p) None b v = refl
initialized_grid None f b v = refl

pub init_pair_grid : (p f b : ℤ) (v w : Screen) (x : Result (Unit {0}) Refusal) → (w, x) ≡ init_pair p f b v → w.grid ≡ v.grid
init_pair_grid p f b v w x e = ap grid_of e ∙ initialized_grid (place_below p pair_count) (place_below f 8) (place_below b 8) v

abbrev screen_of : Screen × Result (Unit {0}) Refusal → Screen
screen_of p = p.0

chosen_screen : (P : Screen → Type 0) (b : Bool) (v w : Screen) (x y : Result (Unit {0}) Refusal) → P v → P w → P (screen_of (if b then (v, x) else (w, y)))
chosen_screen P true v w x y here there = here
chosen_screen P false v w x y here there = there

colored_keeps : (P : Screen → Type 0) (v : Screen) → P v → ((pairs : List Colors) → P (record v { pairs = pairs })) → (p : Option ℕ) (f b : Option (Option ℕ)) → P (colored p f b v).0
colored_keeps P v here there (Some p) (Some f) (Some b) = chosen_screen P (p == 0) v _ _ _ here (there _)
colored_keeps P v here there (Some p) (Some f) None = here
colored_keeps P v here there (Some p) None b = here
colored_keeps P v here there None f b = here

-- A property of a screen that doesn't depend on the colors of its pairs is kept when a pair gets others.
pub recolored_keeps : (P : Screen → Type 0) (v w : Screen) (x : Result (Unit {0}) Refusal) (p f b : ℤ) → (w, x) ≡ init_pair_or_default p f b v → P v → ((pairs : List Colors) → P (record v { pairs = pairs })) → P w
recolored_keeps P v w x p f b e here there =
    subst P (sym (ap screen_of e)) (colored_keeps P v here there (place_below p pair_count) (color_or_default f) (color_or_default b))
