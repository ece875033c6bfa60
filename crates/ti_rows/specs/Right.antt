-- A line is right: from each start of its row the run isn't stuck and ends as wanted.
use Rattle.std.specs.Prelude.{ℕ, ◌≡◌, Bool, true, false, List, [], Some}
use Rattle.vt_term.specs.Text.{Splits}
use Rattle.vt_term.specs.Screen.{State, Screen, Charset, is_graphic}
use Rattle.vt_term.specs.Run.{Runs}
use Rattle.vt_effects.specs.declared.effects.Effect.{Effect}
use Rattle.vt_effects.specs.Start.{Allows}
use Rattle.vt_effects.specs.Effect.{applied, designated}
use Rattle.vt_effects.specs.Record.{record_of}
use Rattle.vt_effects.specs.Settings.{EachTame, EachKeepsMargins, EachKeepsVisible}
use Rattle.ti_rows.specs.Rows.{Attributes, Looks, Row, Sgr, Csr, Civis, Cnorm, Cvvis}
use Rattle.ti_rows.specs.Starts.{IsFree, Starts}
use Rattle.ti_rows.specs.Wants.{Wants}
use Rattle.ti_rows.specs.Asked.{start_of, asked}

-- the run of these bytes ends as wanted, between two tokens
pub record EndsWell (l : Looks) (row : Row) (s : State) (bytes : List ℕ) : Type 0 where
  pub after : State
  pub runs : Runs s bytes after
  pub rest : after.rest ≡ []
  pub wanted : Wants l row s.screen after.screen

abbrev pub sets_margins : Row → Bool
sets_margins (Csr top bottom) = true
sets_margins _ = false

abbrev pub sets_visible : Row → Bool
sets_visible Civis = true
sets_visible Cnorm = true
sets_visible Cvvis = true
sets_visible _ = false

-- the bytes are whole tokens that do what is wanted; no step turns autowrap off or insertion on, none but those of
-- `csr` changes the margins, and none but those of `civis`, `cnorm` and `cvvis` shows or hides the cursor
pub record IsRight (rows cols : ℕ) (l : Looks) (row : Row) (bytes : List ℕ) : Type 0 where
  pub tokens : List (List ℕ)
  pub whole : Splits bytes tokens []
  pub ends : (s : State) → s.rest ≡ [] → Starts rows cols row s.screen → EndsWell l row s bytes
  pub tame : EachTame tokens
  pub margins : sets_margins row ≡ false → EachKeepsMargins rows tokens
  pub visible : sets_visible row ≡ false → EachKeepsVisible tokens

-- the starts of a row are among the states that its start allows
abbrev pub StartsAllowed : Type 0
StartsAllowed =
    (rows cols : ℕ) (row : Row) (s : Screen) → Starts rows cols row s → Allows rows cols (start_of rows cols row) s

-- a record that the table asks for does what is wanted
abbrev pub AskedIsWanted : Type 0
AskedIsWanted =
    (rows cols : ℕ) (l : Looks) (row : Row) (e : Effect) → e ≡ asked l row e → (s : Screen) → Starts rows cols row s
    → Wants l row s (applied e s)

-- bytes with such a record are right
abbrev pub RecordedIsRight : Type 0
RecordedIsRight =
    (rows cols : ℕ) (l : Looks) (row : Row) (bytes : List ℕ) (tokens : List (List ℕ)) (e : Effect)
    → Splits bytes tokens []
    → record_of rows cols (start_of rows cols row) tokens ≡ Some e → e ≡ asked l row e → IsRight rows cols l row bytes

-- the lines of `sgr` have at most one look for each attribute, so that "right with these looks" depends on these
-- lines alone
abbrev pub OneLooks : Type 0
OneLooks =
    (rows cols : ℕ) (l m : Looks) (lines : Attributes → List ℕ) (s : State) → s.rest ≡ [] → IsFree rows cols s.screen
    → ((a : Attributes) → IsRight rows cols l (Sgr a) (lines a))
    → ((a : Attributes) → IsRight rows cols m (Sgr a) (lines a)) → l ≡ m

-- if a record leads from each of these sets to an active set of one kind, its bytes do so from each start with one of
-- them
abbrev pub ActivatesFrom : Type 0
ActivatesFrom =
    (rows cols : ℕ) (row : Row) (bytes : List ℕ) (tokens : List (List ℕ)) (e : Effect) (settled : Charset → Bool)
    (graphic : Bool) → Splits bytes tokens []
    → record_of rows cols (start_of rows cols row) tokens ≡ Some e
    → ((c : Charset) → settled c ≡ true → is_graphic (designated e.charset c) ≡ graphic)
    → (s t : State) → s.rest ≡ [] → Starts rows cols row s.screen → settled s.screen.charset ≡ true → Runs s bytes t
    → is_graphic t.screen.charset ≡ graphic
