-- A record's changes of rendition, character sets, margins and visibility, from every screen of the size with
-- autowrap on and insertion off, even if the start doesn't allow it.
use Rattle.std.specs.Prelude.{ℕ, ◌≡◌, true, false, List, Some, None}
use Rattle.std.specs.List.{AllByRecursion}
use Rattle.vt_term.specs.Screen.{Screen}
use Rattle.vt_term.specs.Step.{step, steps}
use Rattle.vt_effects.specs.declared.effects.Effect.{Effect}
use Rattle.vt_effects.specs.declared.effects.Switch.TheVariants.{Kept}
use Rattle.vt_effects.specs.declared.starts.Start.{Start}
use Rattle.vt_effects.specs.Effect.{rendered, designated, switched, top_of, bottom_of}
use Rattle.vt_effects.specs.Record.{record_of}

-- autowrap is on and insertion off (VT100 DECAWM, ECMA-48 7.2.10 IRM)
pub record IsTame (s : Screen) : Type 0 where
  pub autowrap : s.autowrap ≡ true
  pub inserting : s.inserting ≡ false

-- the settings of t are those of s changed by the effect
pub record SetsAs (e : Effect) (s t : Screen) : Type 0 where
  pub rendition : t.rendition ≡ rendered e.rendition s.rendition
  pub charset : t.charset ≡ designated e.charset s.charset
  pub visible : t.visible ≡ switched e.visible s.visible
  pub top : t.top ≡ top_of e.margins s.top
  pub bottom : t.bottom ≡ bottom_of e.margins s.bottom
  pub tame : IsTame t

-- the steps of these tokens change the settings by the effect, whatever the cursor, the cells and the margins are
abbrev pub SettingsAs : ℕ → List (List ℕ) → Effect → Type 0
SettingsAs rows tokens e = (s : Screen) → s.rows ≡ rows → IsTame s → SetsAs e s (steps tokens s)

-- no step turns autowrap off or insertion on
abbrev pub EachTame : List (List ℕ) → Type 0
EachTame tokens = AllByRecursion (λ token. (s : Screen) → IsTame s → IsTame (step token s)) tokens

pub record SameMargins (s t : Screen) : Type 0 where
  pub top : t.top ≡ s.top
  pub bottom : t.bottom ≡ s.bottom

-- no step changes the margins
abbrev pub EachKeepsMargins : ℕ → List (List ℕ) → Type 0
EachKeepsMargins rows tokens =
    AllByRecursion (λ token. (s : Screen) → s.rows ≡ rows → SameMargins s (step token s)) tokens

-- no step shows or hides the cursor
abbrev pub EachKeepsVisible : List (List ℕ) → Type 0
EachKeepsVisible tokens = AllByRecursion (λ token. (s : Screen) → (step token s).visible ≡ s.visible) tokens

-- the settings after tokens with this record, and after each single one
pub record TellsSettings (rows : ℕ) (tokens : List (List ℕ)) (e : Effect) : Type 0 where
  pub settings : SettingsAs rows tokens e
  pub tame : EachTame tokens
  pub margins : e.margins ≡ None → EachKeepsMargins rows tokens
  pub visible : e.visible ≡ Kept → EachKeepsVisible tokens

-- every record tells the settings
abbrev pub RecordsTellSettings : Type 0
RecordsTellSettings =
    (rows cols : ℕ) (start : Start) (tokens : List (List ℕ)) (e : Effect) → record_of rows cols start tokens ≡ Some e
    → TellsSettings rows tokens e
