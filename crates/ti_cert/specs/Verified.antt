-- The strings of an entry that was verified for a size, and the facts that may be relied on about them, stated by runs
-- of a terminal alone.
use Rattle.std.specs.Prelude.{ℕ, ◌<◌, ◌≡◌, ◌&&◌, Bool, List, Option, Some, None, if◌then◌else◌}
use Rattle.vt_term.specs.Size.{IsSize}
use Rattle.vt_term.specs.Screen.{State}
use Rattle.ti_conforms.specs.Alternates.{partner_of}
use Rattle.ti_rows.specs.declared.rows.Row.{Row}
use Rattle.ti_rows.specs.declared.rows.Row.TheVariants.{Smacs, Rmacs}
use Rattle.ti_rows.specs.Names.{cap_of}
use Rattle.ti_rows.specs.Params.{params}
use Rattle.vt_term.specs.Ends.{Ends}
use Rattle.ti_conforms.specs.Table.{Table, has, resync, IsLost}
use Rattle.ti_conforms.specs.Holds.{LineHolds, TableHolds, IsResynced}
use Rattle.ti_conforms.specs.Together.{StandTogether}
use Rattle.ti_conforms.specs.Looks.{LooksStand}
use Rattle.ti_cert.specs.Strings.{total}
use Rattle.ti_cert.specs.Certificates.{limit}
use Rattle.ti_cert.specs.Table.{CheckedTable, table_of}

pub record IsVerified (c : CheckedTable) : Type 0 where
  pub size : IsSize c.known.strings.rows c.known.strings.cols
  -- all strings together have fewer bytes than a certificate may have, 2^26
  pub few : total c.known.strings < limit
  -- the ends of the lines' runs, whole and cut off, and the end of a resynchronization
  pub holds : TableHolds (table_of c)
  -- lines that come with other lines
  pub together : StandTogether (table_of c)
  -- the looks of attributes if no line sets all of them
  pub looks : LooksStand (table_of c)

-- the row of a capability with these parameters
abbrev pub IsRowOf : ℕ → List ℕ → Row → Type 0
IsRowOf cap numbers row = (cap_of row ≡ cap) × (params row ≡ numbers)

-- there is such a row, its line has these bytes, and everything that a line promises holds of them
pub record IsLineOf (t : Table) (cap : ℕ) (numbers bytes : List ℕ) : Type 0 where
  pub row : Row
  pub is_row : IsRowOf cap numbers row
  pub is_line : t.line_of row ≡ Some bytes
  pub holds : LineHolds t row bytes

abbrev pub listed : Option (List ℕ) → ℕ → Option ℕ
listed None letter = None
listed (Some pairs) letter = partner_of pairs letter

-- the strings that switch to the graphic set and back are both there
abbrev pub can_switch : CheckedTable → Bool
can_switch c = has (table_of c) Smacs && has (table_of c) Rmacs

-- The byte that a letter of the alternate set is sent as (terminfo(5), "Line Graphics"): its partner in `acsc`, if the
-- sets can be switched.
abbrev pub partner_in : CheckedTable → ℕ → Option ℕ
partner_in c letter = if can_switch c then listed c.acsc letter else None

-- from every state that output cut off at any byte may leave, to a blank screen at rest
abbrev pub Resyncs : Table → Type 0
Resyncs t = (s : State) → IsLost t s → Ends s (resync t) (IsResynced t s.screen.visible)

abbrev pub IsResync : CheckedTable → List ℕ → Type 0
IsResync c text = text ≡ resync (table_of c)
