-- Calls that keep the grids of a desk and their positions.
use Rattle.std.proofs.Common.{◌≡◌, ℕ, Bool, List, [], Result, Ok, Err, get_or, refl, sym, ap, ◌∙◌, subst, false}
use Rattle.cur_drawing.specs.declared.refusals.Refusal.{Refusal}
use Rattle.cur_drawing.specs.declared.windows.Window.{Window}
use Rattle.cur_drawing.specs.declared.cells.Attrs.{Attrs}
use Rattle.cur_drawing.specs.Grids.{Grid}
use Rattle.cur_drawing.specs.Windows.{WindowStep}
use Rattle.cur_screens.specs.declared.slots.Origin.{Origin}
use Rattle.cur_windows.specs.Desks.{State, DeskStep, after, on_cursor, on_screen, slot_of, step, unchanged}
use Rattle.cur_screens.specs.Touched.{IsShownBut, Markings, grid_marks}
use Rattle.cur_windows.specs.TouchedWindows.{KeepsShown, ShowsBut}
use Rattle.cur_scripts.specs.declared.groups.AttrsCall.{AttrsCall}
use Rattle.cur_scripts.specs.declared.groups.AttrsCall.TheVariants.{Attron, Attroff, Attrset}
use Rattle.cur_scripts.specs.declared.groups.FlagCall.{FlagCall}
use Rattle.cur_scripts.specs.declared.groups.FlagCall.TheVariants.{Scrollok, Leaveok, Clearok, Idlok}
use Rattle.cur_play.specs.Windows.{attributes_step, flag_step}

-- the grids and their positions
abbrev Ground : Type 0
Ground = List Grid × List Origin

abbrev ground : State → Ground
ground d = (d.grids, d.origins)

abbrev ground_of : DeskStep → Ground
ground_of x = ground x.0

after_same : {A : Type 0} (x : Result A Refusal) (d : State) (next : A → DeskStep) → ((a : A) → ground_of (next a) ≡ ground d) → ground_of (after x d next) ≡ ground d
after_same (Ok a) d next same = same a
after_same (Err e) d next same = refl

-- unmarked cells stay in a desk with the same grids
keeps_ground : (t : Markings) (d e : State) → ground e ≡ ground d → KeepsShown t d t e
keeps_ground t d e is v shown =
    subst (λ (x : Ground). (k : ℕ) → (get_or x.1 k (on_screen 0 0 false)).pad ≡ false → IsShownBut (grid_marks t k) (get_or x.1 k (on_screen 0 0 false)) (get_or x.0 k []) v) (sym is) shown

pub keeps_on_cursor : (t : Markings) (d e : State) (n : ℕ) (act : Window → WindowStep) (r : Result (Unit {0}) Refusal) → step e r ≡ on_cursor d n act → KeepsShown t d t e
keeps_on_cursor t d e n act r is = keeps_ground t d e (ap ground_of is ∙ after_same (slot_of d n) d _ (λ s. refl))

pub keeps_unchanged : (t : Markings) (d e : State) (n : ℕ) (r : Result (Unit {0}) Refusal) → step e r ≡ unchanged d n → KeepsShown t d t e
keeps_unchanged t d e n r is = keeps_ground t d e (ap ground_of is ∙ after_same (slot_of d n) d _ (λ s. refl))

-- by the groups of calls
pub keeps_flag : (t : Markings) (k : FlagCall) (d e : State) (n : ℕ) (on : Bool) (r : Result (Unit {0}) Refusal) → step e r ≡ flag_step k d n on → KeepsShown t d t e
keeps_flag t Scrollok d e n on r is = keeps_on_cursor t d e n _ r is
keeps_flag t Leaveok d e n on r is = keeps_on_cursor t d e n _ r is
keeps_flag t Clearok d e n on r is = keeps_on_cursor t d e n _ r is
keeps_flag t Idlok d e n on r is = keeps_unchanged t d e n r is

pub keeps_attributes : (t : Markings) (k : AttrsCall) (d e : State) (n : ℕ) (a : Attrs) (r : Result (Unit {0}) Refusal) → step e r ≡ attributes_step k d n a → KeepsShown t d t e
keeps_attributes t Attron d e n a r is = keeps_on_cursor t d e n _ r is
keeps_attributes t Attroff d e n a r is = keeps_on_cursor t d e n _ r is
keeps_attributes t Attrset d e n a r is = keeps_on_cursor t d e n _ r is

-- in an equal desk
pub shown_in : (t : Markings) (v : Grid) (d e : State) → e ≡ d → ShowsBut t d v → ShowsBut t e v
shown_in t v d e is shown = subst (λ (x : State). ShowsBut t x v) (sym is) shown
