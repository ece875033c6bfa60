-- A run from a given state of the terminal, and the changes by it in words.
use Rattle.std.specs.Prelude.{◌≡◌, ◌<◌, ◌*◌, ℕ, List, Option, Some, None, replicate}
use Rattle.vt_term.specs.Run.{Runs}
use Rattle.vt_term.specs.Screen.{Settings, State, reset, with_settings}
use Rattle.ti_words.specs.Seen.{seen_text}

-- the cursor and the margins are on a screen of this size
pub record IsOnScreen (height width : ℕ) (settings : Settings) : Type 0 where
  pub row : settings.row < height
  pub col : settings.col < width
  pub region : settings.top < settings.bottom
  pub bottom : settings.bottom < height

-- after a reset, the character `fill` was printed into each cell, and these settings were set
pub record StartsWith (height width : ℕ) (settings : Settings) (fill : ℕ) (start : State) : Type 0 where
  pub on_screen : IsOnScreen height width settings
  pub printed : State
  pub prints : Runs (reset height width) (replicate (height * width) fill) printed
  pub set : start ≡ record printed { screen = with_settings settings printed.screen }

-- the state that begins so, if there is one
abbrev pub IsStart : ℕ → ℕ → Settings → ℕ → Option State → Type 0
IsStart height width settings fill (Some start) = StartsWith height width settings fill start
IsStart height width settings fill None = (start : State) → StartsWith height width settings fill start → ⊥

-- (Serves the code alone.) There are words for what a run from this state changes, exactly if the bytes run.
pub record SaysFrom (start : State) (settings : Settings) (fill : ℕ) (bytes words : List ℕ) : Type 0 where
  pub end : State
  pub runs : Runs start bytes end
  pub says : words ≡ seen_text settings end.screen fill

abbrev pub IsTextFrom : State → Settings → ℕ → List ℕ → Option (List ℕ) → Type 0
IsTextFrom start settings fill bytes (Some words) = SaysFrom start settings fill bytes words
IsTextFrom start settings fill bytes None = (end : State) → Runs start bytes end → ⊥

-- the bytes run from a state that begins so
pub record RunsFrom (height width : ℕ) (settings : Settings) (fill : ℕ) (bytes : List ℕ) (end : State) : Type 0 where
  pub start : State
  pub starts : StartsWith height width settings fill start
  pub runs : Runs start bytes end

-- the words say what this run has changed
pub record SaysRun (height width : ℕ) (settings : Settings) (fill : ℕ) (bytes words : List ℕ) : Type 0 where
  pub end : State
  pub run : RunsFrom height width settings fill bytes end
  pub says : words ≡ seen_text settings end.screen fill

-- there are such words, exactly if the bytes run
abbrev pub IsRunText : ℕ → ℕ → Settings → ℕ → List ℕ → Option (List ℕ) → Type 0
IsRunText height width settings fill bytes (Some words) = SaysRun height width settings fill bytes words
IsRunText height width settings fill bytes None = (end : State) → RunsFrom height width settings fill bytes end → ⊥
