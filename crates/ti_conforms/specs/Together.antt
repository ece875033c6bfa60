-- Which lines exist together if they are just those that an entry sends.
use Rattle.std.specs.Prelude.{ℕ, ◌<◌, ◌≡◌, true, false}
use Rattle.vt_term.specs.Color.{Color}
use Rattle.ti_caps.specs.Entry.{Content}
use Rattle.ti_rows.specs.declared.rows.Row.{Row}
use Rattle.ti_rows.specs.declared.rows.Row.TheVariants.{Clear, Cup, Sgr, Sgr0, Setaf, Setab, Op, Smul, Rev, Blink, Dim}
use Rattle.ti_rows.specs.declared.rows.Row.TheVariants.{Bold, Invis, Smso, Smacs, Rmacs}
use Rattle.ti_rows.specs.Names.{order, no_attributes}
use Rattle.ti_rows.specs.Lists.{IsInRange}
use Rattle.ti_conforms.specs.Entries.{EntryAgrees}
use Rattle.ti_conforms.specs.Table.{Table, has}
use Rattle.ti_conforms.specs.Conforms.{IsFit}

-- no string of a single attribute has a line
pub record HasNoSingles (t : Table) : Type 0 where
  pub smul : has t Smul ≡ false
  pub rev : has t Rev ≡ false
  pub blink : has t Blink ≡ false
  pub dim : has t Dim ≡ false
  pub bold : has t Bold ≡ false
  pub invis : has t Invis ≡ false
  pub smso : has t Smso ≡ false

pub record StandTogether (t : Table) : Type 0 where
  -- a capability with a line has one for each parameter list that the size allows
  pub whole : (row other : Row) → order row ≡ order other → IsInRange t.rows t.cols row → IsInRange t.rows t.cols other
      → has t row ≡ has t other
  pub clears : has t Clear ≡ true
  pub moves : (row col : ℕ) → row < t.rows → col < t.cols → has t (Cup row col) ≡ true
  pub makes_plain : has t Sgr0 ≡ true
  -- colors can be set and taken back, or neither
  pub foregrounds : (c : Color) → has t (Setaf c) ≡ has t Op
  pub backgrounds : (c : Color) → has t (Setab c) ≡ has t Op
  -- the graphic set can be chosen and left, or neither
  pub sets : has t Smacs ≡ has t Rmacs
  pub singles : has t (Sgr no_attributes) ≡ true → HasNoSingles t

abbrev pub AgreedStandTogether : Type 0
AgreedStandTogether =
    (entry : Content) (t : Table) → IsFit entry → EntryAgrees t.rows t.cols entry t.line_of → StandTogether t
