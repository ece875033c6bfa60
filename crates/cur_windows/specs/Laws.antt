-- Laws of the calls, whatever each of them does.
use Rattle.std.specs.Prelude.{◌≡◌, ◌≢◌, ◌⊎◌, ℕ, ◌+◌, true, false, Err, ◌&&◌, nat_le, Bool}
use Rattle.cur_drawing.specs.declared.refusals.Refusal.{Refusal}
use Rattle.cur_drawing.specs.Grids.{is_in, cell_at}
use Rattle.cur_screens.specs.declared.slots.Slot.{Slot}
use Rattle.cur_windows.specs.Desks.{State, DeskStep, grid_at, window_at}

-- between the two desks no cell outside window n's rectangle has changed, and no other window
pub record OnlyWithin (d e : State) (n : ℕ) (s : Slot) : Type 0 where
  pub cells : (k i j : ℕ) → (k ≢ s.root) ⊎ (is_in s.window.area i j ≡ false)
      → cell_at (grid_at e k) i j ≡ cell_at (grid_at d k) i j
  pub windows : (m : ℕ) → m ≢ n → window_at e m ≡ window_at d m

-- two windows have no cell in common
abbrev pub Apart : Slot → Slot → Type 0
Apart s t = (t.root ≢ s.root) ⊎ ((i j : ℕ) → is_in t.window.area i j ≡ true → is_in s.window.area i j ≡ false)

-- window t is a part of window s, from its place y x on
pub record IsSubwindowOf (s t : Slot) (y x : ℕ) : Type 0 where
  pub root : t.root ≡ s.root
  pub top : t.window.area.top ≡ s.window.area.top + y
  pub left : t.window.area.left ≡ s.window.area.left + x

-- a step that is a refusal leaves the desk as it was
abbrev pub UnchangedIfRefused : State → DeskStep → Type 0
UnchangedIfRefused d x = (e : Refusal) → x.1 ≡ Err e → x.0 ≡ d

abbrev pub is_between : ℕ → ℕ → ℕ → Bool
is_between first last i = nat_le first i && nat_le i last
