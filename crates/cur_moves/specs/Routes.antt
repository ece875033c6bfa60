-- (Serves the code alone.) The cursor's way to a place: perhaps by one line to a stop, and then by a line or over cells
-- that are printed again.
use Rattle.std.specs.Prelude.{ℕ, ◌+◌, ◌-◌, ◌<◌, ◌≤◌, ◌≡◌, true, length, Option, Some, None, IfSome}
use Rattle.ti_conforms.specs.Certified.{Table, has, text_of}
use Rattle.cur_steps.specs.declared.beliefs.Belief.{Belief}
use Rattle.cur_steps.specs.declared.beliefs.Place.{Place}
use Rattle.cur_moves.specs.Moves.{Moves, IsWay}
use Rattle.cur_steps.specs.Gaps.{IsGap}
use Rattle.cur_steps.specs.declared.inks.Ink.{Ink}
pub use Rattle.cur_moves.specs.declared.routes.Leg.{Leg}
pub use Rattle.cur_moves.specs.declared.routes.Leg.TheVariants.{By, Over}
pub use Rattle.cur_moves.specs.declared.routes.Stop.{Stop}
pub use Rattle.cur_moves.specs.declared.routes.Route.{Route}

-- the number of bytes of the last leg
abbrev pub leg_bytes : Table → Leg → ℕ → ℕ
leg_bytes t (By line) col = length (text_of t line)
leg_bytes t (Over from) col = col - from

-- a leg that ends in the place
abbrev pub IsLeg : Table → Belief → (ℕ → ℕ → Ink) → ℕ → ℕ → Leg → Type 0
IsLeg t b g row col (By line) = IsWay t (Some b.place) row col line
IsLeg t b g row col (Over from) = IsGap t b g row from col

-- the stop's row leads to it from a place
abbrev pub LeadsFrom : ℕ → Place → Stop → Type 0
LeadsFrom cols from stop = Moves cols (Some from) stop.place.row stop.place.col stop.line

-- a line of the certificate leads to the stop, which is on the screen
pub record IsStop (t : Table) (from : Place) (stop : Stop) : Type 0 where
  pub moves : LeadsFrom t.cols from stop
  pub there : has t stop.line ≡ true
  pub row : stop.place.row < t.rows
  pub col : stop.place.col < t.cols

-- the number of bytes of the way to the stop
abbrev pub stop_bytes : Table → Option Stop → ℕ
stop_bytes t None = 0
stop_bytes t (Some stop) = length (text_of t stop.line)

-- the belief at the stop
abbrev pub at_stop : Option Stop → Belief → Belief
at_stop None b = b
at_stop (Some stop) b = record b { place = stop.place }

-- a way to the place, of no more bytes than the longest `cup`
pub record IsRoute (t : Table) (b : Belief) (g : ℕ → ℕ → Ink) (row col : ℕ) (route : Route) : Type 0 where
  pub stop : IfSome route.stop (λ stop. IsStop t b.place stop)
  pub leg : IsLeg t (at_stop route.stop b) g row col route.leg
  pub bytes : route.bytes ≡ stop_bytes t route.stop + leg_bytes t route.leg col
  pub short : route.bytes ≤ t.longest.cup
