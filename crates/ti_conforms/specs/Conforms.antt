-- The meaning of "an entry drives a terminal of a size correctly", by the bytes that its strings send and by their
-- runs.
use Rattle.std.specs.Prelude.{ℕ, ◌≡◌, ◌<◌, true, false, List, [], ◌∷◌, None, Some}
use Rattle.vt_term.specs.Screen.{State, IsOfSize, Charset, is_graphic}
use Rattle.vt_effects.specs.Settings.{IsTame}
use Rattle.ti_caps.specs.Entry.{Content, flag_at, number_at, string_at}
use Rattle.ti_conforms.specs.Alternates.{is_misfit}
use Rattle.ti_rows.specs.declared.rows.Row.{Row}
use Rattle.ti_rows.specs.declared.rows.Row.TheVariants.{Clear, Cup, Sgr0, Smacs}
use Rattle.ti_rows.specs.Starts.{Starts}
use Rattle.ti_rows.specs.Right.{IsRight}
use Rattle.ti_conforms.specs.Lost.{IsCleared, IsWhole}
use Rattle.vt_term.specs.Ends.{Ends}
use Rattle.ti_conforms.specs.Entries.{acsc, has_string, is_checked, EntryAgrees}
use Rattle.ti_conforms.specs.Table.{Table, has, widening, resync, Activates}
use Rattle.ti_conforms.specs.Sets.{CanHave, CanSettle}
use Rattle.ti_conforms.specs.Judged.{IsJudged}

-- the places of `gn`, `hc`, `os` and `xmc` in the table of all capabilities
abbrev pub gn : ℕ
gn = 6

abbrev pub hc : ℕ
hc = 7

abbrev pub os : ℕ
os = 15

abbrev pub xmc : ℕ
xmc = 48

-- The capabilities that an entry must have, and those that it must not have: attributes that take room on the screen,
-- paper, a generic type, and cells that keep what was printed before.
pub record IsFit (entry : Content) : Type 0 where
  pub clear : has_string entry Clear ≡ true
  pub cup : has_string entry (Cup 0 0) ≡ true
  pub sgr0 : has_string entry Sgr0 ≡ true
  pub no_cookies : number_at entry xmc ≡ None
  pub no_paper : flag_at entry hc ≡ false
  pub no_generic : flag_at entry gn ≡ false
  pub no_overstrike : flag_at entry os ≡ false
  pub partners : (pairs : List ℕ) → string_at entry acsc ≡ Some pairs → (letter : ℕ) → letter < 256
      → is_misfit pairs letter ≡ false

-- After `smacs` the graphic set is active, and after `rmacs` the plain one, from every start with a charset that can
-- be settled (terminfo(5), "Line Graphics").
abbrev pub Switches : Table → Type 0
Switches t =
    (row : Row) (bytes : List ℕ) → t.line_of row ≡ Some bytes → (s : State) → s.rest ≡ []
    → Starts t.rows t.cols row s.screen → CanSettle t s.screen.charset
    → Ends s bytes (λ u. Activates row u.screen.charset)

-- A resynchronization begins with ESC. From every state with a charset that a terminal can have, it leads to a blank
-- screen at rest, whatever sequence is open and wherever the cursor is. The margins must be whole if no line sets any.
pub record Resyncs (t : Table) : Type 0 where
  pub rest : List ℕ
  pub escapes : resync t ≡ 27 ∷ rest
  pub leads : (s : State) → IsOfSize t.rows t.cols s → IsTame s.screen → CanHave t s.screen.charset
      → (has t (widening t) ≡ false → IsWhole s.screen)
      → Ends s (resync t) (IsCleared t.rows t.cols s.screen.visible)

pub record Conforms (entry : Content) (rows cols : ℕ) : Type 0 where
  pub fit : IsFit entry
  -- the bytes sent: for each checked capability and each parameter list in range, and none for others
  pub table : Table
  pub rows_are : table.rows ≡ rows
  pub cols_are : table.cols ≡ cols
  pub sends : EntryAgrees rows cols entry table.line_of
  -- the bytes of each line are whole tokens, and end as wanted from every start
  pub right : (row : Row) (bytes : List ℕ) → table.line_of row ≡ Some bytes → IsRight rows cols table.looks row bytes
  pub switches : Switches table
  -- every settled charset is plain unless `acsc`, `smacs` and `rmacs` are all there
  pub plain : is_checked entry Smacs ≡ false → (c : Charset) → CanSettle table c → is_graphic c ≡ false
  pub resyncs : Resyncs table

abbrev pub AgreedConforms : Type 0
AgreedConforms =
    (entry : Content) (t : Table) → IsFit entry → IsJudged t → EntryAgrees t.rows t.cols entry t.line_of
    → Conforms entry t.rows t.cols
