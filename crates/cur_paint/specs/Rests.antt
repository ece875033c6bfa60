-- The terminal between two refreshes, as it is known: the rendition is the default one and the plain set is active.
use Rattle.std.specs.Prelude.{ℕ, ◌≡◌, ◌⊎◌, Bool, false, Option, Some, None}
use Rattle.vt_term.specs.Look.{plain}
use Rattle.vt_term.specs.Screen.{State, is_graphic}
use Rattle.cur_steps.specs.Inks.{plain_brush}
use Rattle.cur_steps.specs.declared.beliefs.Belief.{Belief}
use Rattle.cur_steps.specs.declared.beliefs.Place.{Place}
use Rattle.cur_paint.specs.declared.updates.Cursor.{Cursor}
use Rattle.cur_paint.specs.declared.updates.Wanted.{Wanted}

-- the belief with which a refresh begins, from what is known of the cursor
abbrev pub rested : Cursor → Belief
rested c = record { place = c.place; brush = plain_brush; graphic = Some false; mode = c.mode }

abbrev pub cursor_of : Belief → Cursor
cursor_of b = record { place = b.place; mode = b.mode }

-- the belief is the knowledge between two refreshes
pub record IsRested (b : Belief) : Type 0 where
  pub brush : b.brush ≡ plain_brush
  pub set : b.graphic ≡ Some false

-- the rendition is the default one, and the plain set is active (ECMA-48 8.3.117, SGR; VT100 user guide, "Select
-- character set")
pub record IsPlain (s : State) : Type 0 where
  pub rendition : s.screen.rendition ≡ plain
  pub set : is_graphic s.screen.charset ≡ false

-- no wrap is pending if a place is wanted for the cursor
abbrev pub HasNoWrap : Option Place → Bool → Type 0
HasNoWrap None pending = Unit {0}
HasNoWrap (Some p) pending = pending ≡ false

-- the cursor is in the wanted place itself, so that no wrap is pending there
abbrev pub IsAt : Option Place → Place → Type 0
IsAt None now = Unit {0}
IsAt (Some p) now = now ≡ p

-- the cursor is in the wanted place itself, or no byte may go out
abbrev pub EndsAt : Option Place → ℕ → Place → Type 0
EndsAt cursor limit now = IsAt cursor now ⊎ (limit ≡ 0)

-- the cursor is in the wanted place itself and in the wanted mode, and all else is at rest
pub record IsSet (w : Wanted) (b : Belief) : Type 0 where
  pub at : IsAt w.cursor b.place
  pub rested : IsRested b
  pub mode : b.mode ≡ Some w.mode
