-- The promise of a refresh, done or cut short.
use Rattle.std.specs.Prelude.{ℕ, ◌<◌, ◌≤◌, ◌≡◌, Bool, true, false, List, [], ◌++◌, length, Option, Some, Result, Ok}
use Rattle.std.specs.Prelude.{Err, OnOk, if◌then◌else◌}
use Rattle.std.specs.List.{AllByRecursion, concat}
use Rattle.vt_term.specs.Grid.{look_at}
use Rattle.vt_term.specs.Screen.{State}
use Rattle.vt_term.specs.Ends.{Ends}
use Rattle.cur_steps.specs.WireSteps.{Steps}
use Rattle.cur_steps.specs.Leads.{Leads}
use Rattle.cur_steps.specs.Wire.{Rose, Sends}
use Rattle.ti_rows.specs.declared.rows.Row.TheVariants.{Clear}
use Rattle.ti_conforms.specs.Certified.{Table, IsLost, IsWhole, IsPiece, text_of}
use Rattle.cur_steps.specs.Inks.{look_of}
use Rattle.cur_steps.specs.Beliefs.{Agrees, is_shown}
use Rattle.cur_steps.specs.declared.beliefs.Belief.{Belief}
use Rattle.cur_steps.specs.declared.beliefs.Mode.{Mode}
use Rattle.cur_steps.specs.declared.inks.Ink.{Ink}
use Rattle.cur_paint.specs.Limits.{paint_limit, fresh_limit, IsCursor, IsPlaced}
use Rattle.cur_paint.specs.Modes.{OnlyPaints, shown_mode}
use Rattle.cur_paint.specs.Rests.{rested, IsRested, IsPlain, HasNoWrap, EndsAt}
use Rattle.cur_paint.specs.declared.updates.Cursor.{Cursor}
use Rattle.cur_paint.specs.declared.updates.Wanted.{Wanted}
use Rattle.cur_paint.specs.declared.updates.Knowledge.{Knowledge}
use Rattle.cur_paint.specs.declared.updates.Status.{Status}
use Rattle.cur_paint.specs.declared.updates.Status.TheVariants.{Fresh, Known, Lost}

-- nothing open, the margins are the whole screen, the sets reached, and the cursor is visible; all else is free
pub record IsFresh (t : Table) (s : State) : Type 0 where
  pub lost : IsLost t s
  pub rest : s.rest ≡ []
  pub whole : IsWhole s.screen
  pub visible : s.screen.visible ≡ true

-- the states that the terminal may be in under a belief: if it is known, it shows the cells of the last refresh that
-- was done, and the belief is true of it
abbrev pub Meets : Table → (ℕ → ℕ → Ink) → Status → Belief → State → Type 0
Meets t shown Fresh b s = IsFresh t s
Meets t shown Known b s = Agrees t shown b s
Meets t shown Lost b s = IsLost t s

-- The states that the terminal may be in between two calls: if it is known, its cursor is the known one, its rendition
-- is the default one, and its active set is the plain one.
abbrev pub Fits : Table → (ℕ → ℕ → Ink) → Status → Cursor → State → Type 0
Fits t shown status c = Meets t shown status (rested c)

-- nothing is open, each cell has the look of the screen's, and the cursor is at the wanted place, if there is one, and
-- visible as wanted
pub record Shows (t : Table) (g : ℕ → ℕ → Ink) (w : Wanted) (s : State) : Type 0 where
  pub closed : s.rest ≡ []
  pub cells : (i j : ℕ) → i < t.rows → j < t.cols → look_at s.screen.grid i j ≡ look_of t.looks (g i j)
  pub cursor : IsCursor w.cursor s.screen.row s.screen.col
  pub visible : s.screen.visible ≡ is_shown w.mode

pub record BeginsWith (first bytes : List ℕ) : Type 0 where
  pub more : List ℕ
  pub begins : bytes ≡ first ++ more

pub record BeginsClear (t : Table) (bytes : List ℕ) : Type 0 where
  pub line : List ℕ
  pub is : t.line_of Clear ≡ Some line
  pub begins : BeginsWith line bytes

-- a known session begins with `clear` if that is asked for, and any other with the resynchronization
abbrev pub Begins : Table → Status → Bool → List ℕ → Type 0
Begins t Known true bytes = BeginsClear t bytes
Begins t Known false bytes = Unit {0}
Begins t Fresh clear bytes = BeginsWith t.resync bytes
Begins t Lost clear bytes = BeginsWith t.resync bytes

-- the bytes with which a refresh begins
abbrev pub opening : Table → Status → Bool → List ℕ
opening t Known true = text_of t Clear
opening t Known false = []
opening t Fresh clear = t.resync
opening t Lost clear = t.resync

-- Characters and lines that begin as they must, send nothing that wasn't asked for, and lead each state of the kind to
-- one that shows the screen. If the cursor isn't known to be in its mode (now), the strings for that are among them.
pub record Lawful (t : Table) (kind : State → Type 0) (status : Status) (now : Option Mode) (bytes : List ℕ)
    (g : ℕ → ℕ → Ink) (w : Wanted) : Type 0 where
  pub pieces : List (List ℕ)
  pub made : bytes ≡ concat pieces
  pub each : AllByRecursion (IsPiece t) pieces
  pub begins : Begins t status w.clear bytes
  pub shows : (s : State) → kind s → Ends s bytes (Shows t g w)
  pub quiet : OnlyPaints t (opening t status w.clear) now w.cursor w.mode bytes
  -- they leave the default rendition and the plain set, for whatever is sent next
  pub plain : (s : State) → kind s → Ends s bytes IsPlain
  -- unless they are empty, they leave no pending wrap at the cursor's wanted place: some terminals don't draw it there
  pub unwrapped : 0 < length bytes → (s : State) → kind s → Ends s bytes (λ u. HasNoWrap w.cursor u.screen.pending)

abbrev pub refresh_limit : Table → (ℕ → ℕ → Ink) → (ℕ → ℕ → Ink) → Status → Belief → Wanted → ℕ
refresh_limit t shown g Known b w = if w.clear then fresh_limit t else paint_limit t shown g b w.cursor w.mode
refresh_limit t shown g Fresh b w = fresh_limit t
refresh_limit t shown g Lost b w = fresh_limit t

-- the bytes of a refresh, sent whole or in part
pub record Draws {W T E : Type 0} (went : W → W → List ℕ → Type 0) (failures : W → ℕ) (old new : W)
    (answer : Result T E) (t : Table) (shown g : ℕ → ℕ → Ink) (w : Wanted) (status : Status)
    (b after : Belief) : Type 0 where
  pub step : Steps went failures old new answer (IsPiece t) (refresh_limit t shown g status b w) (IsLost t)
      (Meets t shown status b) (Agrees t g after)
  pub begins : Begins t status w.clear step.bytes
  pub there : OnOk answer (IsPlaced t.cols w.cursor after.place)
  pub at : OnOk answer (EndsAt w.cursor (refresh_limit t shown g status b w) after.place)
  pub rested : OnOk answer (IsRested after)
  pub mode : OnOk answer (after.mode ≡ Some w.mode)
  pub quiet : OnOk answer
      (OnlyPaints t (opening t status w.clear) (shown_mode status b.mode) w.cursor w.mode step.bytes)

-- a refresh from one kind of states, with its bound, the bytes with which it begins, and the mode in which the cursor
-- is known to be shown before
pub record Anew {W T E : Type 0} (went : W → W → List ℕ → Type 0) (failures : W → ℕ) (old new : W)
    (answer : Result T E) (t : Table) (limit : ℕ) (before after : State → Type 0) (first : List ℕ)
    (now : Option Mode) (w : Wanted) : Type 0 where
  pub step : Steps went failures old new answer (IsPiece t) limit (IsLost t) before after
  pub begins : BeginsWith first step.bytes
  pub quiet : OnOk answer (OnlyPaints t first now w.cursor w.mode step.bytes)

-- all bytes of a refresh; they went out, or only a prefix of them did, by the answer
pub record Made {W T E : Type 0} (went : W → W → List ℕ → Type 0) (failures : W → ℕ) (old new : W)
    (answer : Result T E) (t : Table) (shown g : ℕ → ℕ → Ink) (w : Wanted) (status : Status)
    (b after : Belief) : Type 0 where
  pub bytes : List ℕ
  pub sends : Sends went failures old new bytes answer
  pub leads : Leads (IsPiece t) (refresh_limit t shown g status b w) (IsLost t) (Meets t shown status b) bytes
      (Agrees t g after)
  pub begins : Begins t status w.clear bytes
  pub there : IsPlaced t.cols w.cursor after.place
  pub at : EndsAt w.cursor (refresh_limit t shown g status b w) after.place
  pub rested : IsRested after
  pub mode : after.mode ≡ Some w.mode
  pub quiet : OnlyPaints t (opening t status w.clear) (shown_mode status b.mode) w.cursor w.mode bytes

-- A refresh that was done: every state that fits before, run over the sent bytes, shows the screen and fits after. The
-- bytes are lawful, and keep the bound.
pub record Refreshed {W : Type 0} (went : W → W → List ℕ → Type 0) (old new : W) (t : Table) (shown g : ℕ → ℕ → Ink)
    (w : Wanted) (before after : Knowledge) : Type 0 where
  pub bytes : List ℕ
  pub sent : went old new bytes
  pub bound : length bytes ≤ refresh_limit t shown g before.status (rested before.cursor) w
  pub lawful : Lawful t (Fits t shown before.status before.cursor) before.status
      (shown_mode before.status before.cursor.mode) bytes g w
  pub fits : (s : State) → Fits t shown before.status before.cursor s → Ends s bytes (Fits t g Known after.cursor)
  -- each prefix of them leads to a state that fits a lost session
  pub cut : (front back : List ℕ) → bytes ≡ front ++ back → (s : State) → Fits t shown before.status before.cursor s
      → Ends s front (IsLost t)
  pub known : after.status ≡ Known
  pub there : IsPlaced t.cols w.cursor after.cursor.place
  pub mode : after.cursor.mode ≡ Some w.mode

-- A refresh that the wire cut short: a proper prefix of lawful bytes went out, and the terminal may be in any state
-- that fits a lost session.
pub record CutShort {W : Type 0} (went : W → W → List ℕ → Type 0) (failures : W → ℕ) (old new : W) (t : Table)
    (shown g : ℕ → ℕ → Ink) (w : Wanted) (before after : Knowledge) : Type 0 where
  pub front : List ℕ
  pub back : List ℕ
  pub sent : went old new front
  pub failed : Rose (failures old) (failures new)
  pub bound : length front ≤ refresh_limit t shown g before.status (rested before.cursor) w
  pub lawful : Lawful t (Fits t shown before.status before.cursor) before.status
      (shown_mode before.status before.cursor.mode) (front ++ back) g w
  pub fits : (s : State) → Fits t shown before.status before.cursor s → Ends s front (IsLost t)
  -- each prefix of this prefix also leads to a state that fits a lost session
  pub cut : (x y : List ℕ) → front ≡ x ++ y → (s : State) → Fits t shown before.status before.cursor s
      → Ends s x (IsLost t)
  pub lost : after.status ≡ Lost
  pub some_left : 0 < length back

abbrev pub Refreshes : {W T E : Type 0} → (W → W → List ℕ → Type 0) → (W → ℕ) → W → W → Result T E → Table
    → (ℕ → ℕ → Ink) → (ℕ → ℕ → Ink) → Wanted → Knowledge → Knowledge → Type 0
Refreshes went failures old new (Ok x) t shown g w before after = Refreshed went old new t shown g w before after
Refreshes went failures old new (Err e) t shown g w before after =
    CutShort went failures old new t shown g w before after
