-- The facts about a verified certificate that a painter may use: its lines, their effects, and the resynchronization.
use Rattle.std.specs.Prelude.{ℕ, ◌+◌, ◌^◌, ◌<◌, ◌≤◌, ◌≡◌, ◌&&◌, not, if◌then◌else◌, Bool, true, false, List, [], ◌∷◌}
use Rattle.std.specs.Prelude.{◌++◌, length, sum_by, Option, Some, None}
use Rattle.std.specs.List.{AllByRecursion, concat}
use Rattle.vt_term.specs.Size.{IsSize}
use Rattle.vt_term.specs.Color.{Color}
use Rattle.vt_term.specs.Look.{IsPrinted}
use Rattle.vt_term.specs.Screen.{State, Charset, IsOfSize, is_graphic}
use Rattle.vt_term.specs.Ends.{Drives, Ends}
use Rattle.ti_conforms.specs.Charsets.{reset_charset}
use Rattle.ti_conforms.specs.Looks.{SingleLooks}
use Rattle.ti_conforms.specs.Lost.{IsCleared}
pub use Rattle.ti_conforms.specs.Lost.{IsWhole}
pub use Rattle.ti_conforms.specs.Table.{Table, Longest, has, or_nothing, text_of, IsLost, settles, Activates, Ended}
use Rattle.ti_rows.specs.declared.rows.Attributes.{Attributes}
use Rattle.ti_rows.specs.declared.rows.Row.{Row}
use Rattle.ti_rows.specs.declared.rows.Row.TheVariants.{Clear, Cup, El, El1, Ed, Ech, Sgr, Sgr0, Setaf, Setab, Op, Smul}
use Rattle.ti_rows.specs.declared.rows.Row.TheVariants.{Rev, Blink, Dim, Bold, Invis, Smso, Smacs, Rmacs, Csr, Ind, Ri}
use Rattle.ti_rows.specs.declared.rows.Row.TheVariants.{Civis, Cnorm, Cvvis}
use Rattle.ti_rows.specs.Names.{no_attributes}
use Rattle.ti_rows.specs.Starts.{Starts}
use Rattle.ti_rows.specs.Right.{sets_visible}
use Rattle.vt_effects.specs.Settings.{IsTame}

-- The line that may be sent for a row. Without `cnorm` nothing makes the cursor normal again, so `civis` and `cvvis`
-- are not sent (terminfo(5), "Highlighting, Underlining, and Visible Bells").
abbrev pub line_in : Table → Row → Option (List ℕ)
line_in t row = if sets_visible row && not (has t Cnorm) then None else t.line_of row

abbrev pub sendable : Table → Table
sendable t = record t { line_of = λ row. line_in t row }

-- no sequence is open, the margins are the whole screen, and the charset is settled
pub record IsReady (t : Table) (s : State) : Type 0 where
  pub sized : IsOfSize t.rows t.cols s
  pub rest : s.rest ≡ []
  pub tame : IsTame s.screen
  pub whole : IsWhole s.screen
  pub settled : t.settled s.screen.charset ≡ true
  pub visible : has t Cnorm ≡ false → s.screen.visible ≡ true

-- the most bytes of a row's line
abbrev pub limit_of : Table → Row → ℕ
limit_of t (Cup r c) = t.longest.cup
limit_of t (Sgr a) = t.longest.sgr
limit_of t (Setaf c) = t.longest.setaf
limit_of t (Setab c) = t.longest.setab
limit_of t Op = t.longest.op
limit_of t Smacs = t.longest.sets
limit_of t Rmacs = t.longest.sets
limit_of t El = t.longest.erasure
limit_of t El1 = t.longest.erasure
limit_of t Ed = t.longest.erasure
limit_of t (Ech n) = t.longest.erasure
limit_of t (Csr r c) = t.longest.scroll
limit_of t Ind = t.longest.scroll
limit_of t Ri = t.longest.scroll
limit_of t Civis = t.longest.civis
limit_of t Cnorm = t.longest.cnorm
limit_of t Cvvis = t.longest.cvvis
limit_of t Clear = length t.resync
limit_of t row = length (text_of t row)

-- the most bytes that a cell takes, with its move and all changes of its look
abbrev pub cell_limit : Table → ℕ
cell_limit t =
    t.longest.cup + t.longest.sgr + t.longest.setaf + t.longest.setab + t.longest.op + t.longest.sets
    + t.longest.erasure + t.longest.scroll
    + t.longest.civis + t.longest.cnorm + t.longest.cvvis + 1

pub record IsCheckedLine (t : Table) (row : Row) (bytes : List ℕ) : Type 0 where
  pub drives : Drives (Starts t.rows t.cols row) (Ended t row) (IsLost t) bytes
  pub short : length bytes ≤ limit_of t row

-- a blank screen at rest, in the default rendition, with the plain set
pub record IsBlank (t : Table) (seen : Bool) (s : State) : Type 0 where
  pub ready : IsReady t s
  pub cleared : IsCleared t.rows t.cols seen s
  pub open cleared use *
  pub set : is_graphic s.screen.charset ≡ false

-- a piece of what a painter sends: a line, or a character
pub data IsPiece (t : Table) (piece : List ℕ) : Type 0 where
  Line : (row : Row) → t.line_of row ≡ Some piece → IsPiece t piece
  Character : (b : ℕ) → IsPrinted b → piece ≡ b ∷ [] → IsPiece t piece

-- the strings of single attributes, in the order in which they are sent
abbrev pub singles : List Row
singles = Smul ∷ Rev ∷ Blink ∷ Dim ∷ Bold ∷ Invis ∷ Smso ∷ []

abbrev pub lengths : Table → List Row → ℕ
lengths t rows = sum_by (λ row. length (text_of t row)) rows

-- Without `sgr`, an attribute is seen exactly if there is a line for it, and a set of attributes takes `sgr0` and the
-- lines of single attributes (terminfo(5), "Highlighting, Underlining, and Visible Bells").
pub record HasSingles (t : Table) : Type 0 where
  pub looks : SingleLooks (λ row. has t row) t.looks
  pub open looks use *
  pub short : length (text_of t Sgr0) + lengths t singles ≤ t.longest.sgr

-- bounds for the bytes of a line, of a cell and of a resynchronization
pub record IsSmall (t : Table) : Type 0 where
  pub lines : (row : Row) → length (text_of t row) < 2 ^ 26
  pub cell : cell_limit t < 2 ^ 31
  pub resync : length t.resync < 2 ^ 29

-- the colors have lines together, and so have the strings of the graphic set
pub record IsChecked (t : Table) : Type 0 where
  pub size : IsSize t.rows t.cols
  pub small : IsSmall t
  pub lines : (row : Row) (bytes : List ℕ) → t.line_of row ≡ Some bytes → IsCheckedLine t row bytes
  pub moves : (r c : ℕ) → r < t.rows → c < t.cols → has t (Cup r c) ≡ true
  pub clears : has t Clear ≡ true
  pub plain : has t Sgr0 ≡ true
  -- there is a line of `sgr` for every set of attributes, or for none
  pub attributes : has t (Sgr no_attributes) ≡ true → (a : Attributes) → has t (Sgr a) ≡ true
  pub singles : has t (Sgr no_attributes) ≡ false → HasSingles t
  pub foregrounds : has t Op ≡ true → (c : Color) → has t (Setaf c) ≡ true
  pub backgrounds : has t Op ≡ true → (c : Color) → has t (Setab c) ≡ true
  pub sets : has t Smacs ≡ false → has t Rmacs ≡ false
  pub plain_sets : has t Rmacs ≡ false → (c : Charset) → t.settled c ≡ true → is_graphic c ≡ false
  -- the charset of a terminal in its reset state is reached
  pub starts : t.reached reset_charset ≡ true
  pub settled_reached : (c : Charset) → t.settled c ≡ true → t.reached c ≡ true
  pub resync_pieces : List (List ℕ)
  pub resync_made : t.resync ≡ concat resync_pieces
  pub resync_each : AllByRecursion (IsPiece t) resync_pieces
  pub resyncs : (s : State) → IsLost t s → Ends s t.resync (IsBlank t s.screen.visible)
  pub resync_fronts : (s : State) → IsLost t s → (front back : List ℕ) → t.resync ≡ front ++ back
      → Ends s front (IsLost t)
