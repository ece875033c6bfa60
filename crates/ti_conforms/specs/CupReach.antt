-- When a string serves as `cup` (terminfo(5), "Cursor Motions").
use Rattle.std.specs.Prelude.{◌≡◌, ◌<◌, ◌-◌, ◌⊎◌, ℕ, pos, true, List, [], ◌∷◌, ◌++◌, None, Ok, Err}
use Rattle.ti_parm.specs.Meaning.{sent}
use Rattle.ti_parm.specs.Value.{Value, Number}
use Rattle.ti_parm.specs.declared.fault.ParmFault.{ParmFault}
use Rattle.vt_term.specs.Text.{Splits, IsStuck, IsUnfinished}
use Rattle.vt_term.specs.Run as Run
use Rattle.vt_term.specs.Screen.{State, IsOfSize, IsAtRest}
use Rattle.vt_effects.specs.declared.effects.Effect.{Effect}
use Rattle.vt_effects.specs.declared.effects.Move.{Move}
use Rattle.vt_effects.specs.declared.starts.Start.{Start}
use Rattle.vt_effects.specs.declared.starts.Margins.TheVariants.{Whole}
use Rattle.vt_effects.specs.Effect.{moved}
use Rattle.vt_effects.specs.Record.{record_of}
use Rattle.ti_conforms.specs.declared.cup_reach.MissKind.{MissKind}
use Rattle.ti_conforms.specs.declared.cup_reach.MissKind.TheVariants.{Parm, Token, Misses, Undecided, NoMemory}

-- a row and a column as a string's parameters
abbrev pub place : ℕ → ℕ → List Value
place row col = Number (pos row) ∷ Number (pos col) ∷ []

-- the bytes are tokens to their end
abbrev pub IsWhole : List ℕ → Type 0
IsWhole bytes = (tokens : List (List ℕ)) × Splits bytes tokens []

-- the string can be expanded for this place, the bytes sent (without delays) are whole tokens, and from every state
-- at rest they leave the cursor of a terminal of this size there
pub record StringReaches (string : List ℕ) (rows cols row col : ℕ) : Type 0 where
  pub bytes : List ℕ
  pub sends : sent string (place row col) ≡ Ok bytes
  pub whole : IsWhole bytes
  pub leads : Run.Reaches rows cols bytes row col

-- the places of a row left of a column are reached
abbrev pub ReachesInRow : List ℕ → ℕ → ℕ → ℕ → ℕ → Type 0
ReachesInRow string rows cols row end = (col : ℕ) → col < end → StringReaches string rows cols row col

-- every place of the screen is reached
abbrev pub ServesAsCup : List ℕ → ℕ → ℕ → Type 0
ServesAsCup string rows cols = (row col : ℕ) → row < rows → col < cols → StringReaches string rows cols row col

-- the string can't be expanded for this place
abbrev pub HasFaultAt : List ℕ → ℕ → ℕ → Type 0
HasFaultAt string row col = (fault : ParmFault) × (sent string (place row col) ≡ Err fault)

-- the bytes end inside a sequence, or one of them fits nothing
abbrev pub IsNoText : List ℕ → Type 0
IsNoText bytes = (at : ℕ) × (IsUnfinished bytes at ⊎ IsStuck bytes at)

-- the bytes for this place aren't a whole text
pub record IsNoTextAt (string : List ℕ) (row col : ℕ) : Type 0 where
  pub bytes : List ℕ
  pub sends : sent string (place row col) ≡ Ok bytes
  pub fault : IsNoText bytes

-- from some state at rest the bytes leave the cursor elsewhere
pub record LeavesElsewhere (rows cols : ℕ) (bytes : List ℕ) (row col : ℕ) : Type 0 where
  pub before : State
  pub size : IsOfSize rows cols before
  pub rest : IsAtRest before
  pub after : State
  pub runs : Run.Runs before bytes after
  pub elsewhere : after.screen.row ≡ row → after.screen.col ≡ col → ⊥

-- the bytes for this place leave the cursor elsewhere
pub record MissesAt (string : List ℕ) (rows cols row col : ℕ) : Type 0 where
  pub bytes : List ℕ
  pub sends : sent string (place row col) ≡ Ok bytes
  pub misses : LeavesElsewhere rows cols bytes row col

-- every state at rest: any cursor, and the whole screen as margins
abbrev pub at_rest : ℕ → ℕ → Start
at_rest rows cols =
    record { row_min = 0; row_max = rows - 1; col_min = 0; col_max = cols - 1; pending = true; margins = Whole }

-- the tokens of the bytes have no record from rest, and the last of them isn't CUP
pub record IsUndecided (rows cols : ℕ) (bytes : List ℕ) : Type 0 where
  pub tokens : List (List ℕ)
  pub splits : Splits bytes tokens []
  pub unrecorded : record_of rows cols (at_rest rows cols) tokens ≡ None
  pub last : (front : List (List ℕ)) (token : List ℕ) → tokens ≡ front ++ token ∷ []
      → Run.place_of rows cols token ≡ None

pub record IsUndecidedAt (string : List ℕ) (rows cols row col : ℕ) : Type 0 where
  pub bytes : List ℕ
  pub sends : sent string (place row col) ≡ Ok bytes
  pub undecided : IsUndecided rows cols bytes

-- the reason why nothing is sent for a place
abbrev pub TellsWhyUnsent : List ℕ → ℕ → ℕ → MissKind → Type 0
TellsWhyUnsent string row col Parm = HasFaultAt string row col
TellsWhyUnsent string row col Token = ⊥
TellsWhyUnsent string row col Misses = ⊥
TellsWhyUnsent string row col Undecided = ⊥
TellsWhyUnsent string row col NoMemory = Unit {0}

-- the reason why the bytes for a place don't reach it
abbrev pub IsMiss : ℕ → ℕ → List ℕ → ℕ → ℕ → MissKind → Type 0
IsMiss rows cols bytes row col Parm = ⊥
IsMiss rows cols bytes row col Token = IsNoText bytes
IsMiss rows cols bytes row col Misses = LeavesElsewhere rows cols bytes row col
IsMiss rows cols bytes row col Undecided = IsUndecided rows cols bytes
IsMiss rows cols bytes row col NoMemory = Unit {0}

-- every text of these tokens reaches the place; every text of these tokens misses it
abbrev pub TokensReach : ℕ → ℕ → List (List ℕ) → ℕ → ℕ → Type 0
TokensReach rows cols tokens row col = (bytes : List ℕ) → Splits bytes tokens [] → Run.Reaches rows cols bytes row col

abbrev pub TokensMiss : ℕ → ℕ → List (List ℕ) → ℕ → ℕ → MissKind → Type 0
TokensMiss rows cols tokens row col kind =
    (bytes : List ℕ) → Splits bytes tokens [] → IsMiss rows cols bytes row col kind

-- a move leads from each of this many rows or columns to this one; a move leads from one of them elsewhere
abbrev pub LeadsAll : Move → ℕ → ℕ → Type 0
LeadsAll way count to = (from : ℕ) → from < count → moved way from ≡ to

pub record MissesFromSome (way : Move) (count to : ℕ) : Type 0 where
  pub from : ℕ
  pub within : from < count
  pub misses : moved way from ≡ to → ⊥

-- an effect leaves every cursor at this place; an effect leaves some cursor elsewhere
pub record EndsThere (rows cols : ℕ) (e : Effect) (row col : ℕ) : Type 0 where
  pub row_there : LeadsAll e.row rows row
  pub col_there : LeadsAll e.col cols col

abbrev pub EndsElsewhere : ℕ → ℕ → Effect → ℕ → ℕ → MissKind → Type 0
EndsElsewhere rows cols e row col Misses = MissesFromSome e.row rows row ⊎ MissesFromSome e.col cols col
EndsElsewhere rows cols e row col _ = ⊥

-- the reason why a place isn't reached; out of memory says nothing
abbrev pub TellsWhy : List ℕ → ℕ → ℕ → ℕ → ℕ → MissKind → Type 0
TellsWhy string rows cols row col Parm = HasFaultAt string row col
TellsWhy string rows cols row col Token = IsNoTextAt string row col
TellsWhy string rows cols row col Misses = MissesAt string rows cols row col
TellsWhy string rows cols row col Undecided = IsUndecidedAt string rows cols row col
TellsWhy string rows cols row col NoMemory = Unit {0}

-- the places before this one, row by row, are reached
pub record ReachesBefore (string : List ℕ) (rows cols row col : ℕ) : Type 0 where
  pub above : (i : ℕ) → i < row → ReachesInRow string rows cols i cols
  pub left : ReachesInRow string rows cols row col
