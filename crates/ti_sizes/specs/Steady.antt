-- Effects that are one for all sizes.
use Rattle.std.specs.Prelude.{ℕ, ◌≡◌, ◌+◌, ◌-◌, ◌<◌, ◌≤◌, List, [], None}
use Rattle.vt_term.specs.Function.{Function}
use Rattle.vt_term.specs.Text.{Splits}
use Rattle.vt_term.specs.Size.{IsSize, max_rows, max_cols}
use Rattle.vt_effects.specs.declared.effects.Effect.{Effect}
use Rattle.vt_effects.specs.declared.effects.Move.TheVariants as moves
use Rattle.vt_effects.specs.declared.starts.Start.{Start}
use Rattle.vt_effects.specs.declared.starts.Margins.TheVariants as margins
use Rattle.vt_effects.specs.Effect.{moved}
use Rattle.vt_effects.specs.Record.{extended, record_of}
use Rattle.ti_rows.specs.declared.rows.Row.{Row}
use Rattle.ti_rows.specs.Asked.{start_of}
use Rattle.ti_rows.specs.Lists.{IsInRange}

-- at each size that allows the row, the tokens have the record that they have at the greatest size, or none as there
abbrev pub IsSteady : Row → List (List ℕ) → Type 0
IsSteady row tokens =
    (rows cols : ℕ) → IsSize rows cols → IsInRange rows cols row
    → record_of rows cols (start_of rows cols row) tokens
    ≡ record_of max_rows max_cols (start_of max_rows max_cols row) tokens

-- the text is whole tokens that have such a record
pub record IsSteadyText (row : Row) (text : List ℕ) : Type 0 where
  pub tokens : List (List ℕ)
  pub whole : Splits text tokens []
  pub steady : IsSteady row tokens

-- a function, after this effect, does so too
abbrev pub IsSteadyStep : Row → Function → Effect → Type 0
IsSteadyStep row function e =
    (rows cols : ℕ) → IsSize rows cols → IsInRange rows cols row
    → extended rows cols (start_of rows cols row) function e
    ≡ extended max_rows max_cols (start_of max_rows max_cols row) function e

-- each size that allows the row has more rows, or more columns, than this
abbrev pub HasRow : Row → ℕ → Type 0
HasRow row n = (rows cols : ℕ) → IsSize rows cols → IsInRange rows cols row → n < rows

abbrev pub HasCol : Row → ℕ → Type 0
HasCol row n = (rows cols : ℕ) → IsSize rows cols → IsInRange rows cols row → n < cols

-- ---- (Serves the code alone.) The conditions by which a step is one for all sizes.

-- the row's start at the greatest size
abbrev pub greatest_start : Row → Start
greatest_start row = start_of max_rows max_cols row

-- the rows and columns that the cursor's greatest start leaves free
abbrev pub rows_free : Row → ℕ
rows_free row = max_rows - 1 - (greatest_start row).row_max

abbrev pub cols_free : Row → ℕ
cols_free row = max_cols - 1 - (greatest_start row).col_max

-- the margins are the whole screen at every size
pub record KnowsWhole (row : Row) (e : Effect) : Type 0 where
  pub start : (greatest_start row).margins ≡ margins.Whole
  pub kept : e.margins ≡ None

-- from each start there is room for a move by n after the effect
abbrev pub HasRowsFor : Row → Effect → ℕ → Type 0
HasRowsFor row e n =
    (rows cols : ℕ) → IsSize rows cols → IsInRange rows cols row
    → moved e.row (start_of rows cols row).row_max + n ≤ rows - 1

abbrev pub HasColsFor : Row → Effect → ℕ → Type 0
HasColsFor row e n =
    (rows cols : ℕ) → IsSize rows cols → IsInRange rows cols row
    → moved e.col (start_of rows cols row).col_max + n ≤ cols - 1

-- every start is on the last line of its region
pub record IsAtBottom (row : Row) (e : Effect) : Type 0 where
  pub start : (greatest_start row).margins ≡ margins.OnBottom
  pub kept : e.row ≡ moves.Kept
  pub none_free : rows_free row ≡ 0

-- every start is on the first line of its region
pub record IsAtTop (row : Row) (e : Effect) : Type 0 where
  pub start : (greatest_start row).margins ≡ margins.OnTop
  pub first : moved e.row (greatest_start row).row_min ≡ 0
