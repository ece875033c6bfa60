-- The replies of `feed`, by the contents of its file.
use Rattle.std.specs.Prelude.{◌≡◌, ℕ, List, [], None}
use Rattle.std.specs.String.{string_bytes}
use Rattle.vt_term.specs.Printed.{screen_text}
use Rattle.vt_term.specs.Run.{Runs, Sticks}
use Rattle.vt_term.specs.Screen.{State, reset}
use Rattle.ti_files.specs.Contents.{HasBytes, Held, longest_file}
use Rattle.ti_files.specs.Sizes.{HasSize, LacksSize, SizeGiven}
use Rattle.ti_files.specs.declared.failure.Failure.{Failure}
use Rattle.ti_files.specs.declared.failure.Failure.TheVariants.{Refused, File, NoMemory}
use Rattle.ti_files.specs.declared.failure.CommandRefusal.TheVariants.{Stuck}
use Rattle.ti_files.specs.declared.failure.Reply.{Reply}

-- the text is the screen after the run of these bytes from the reset state
pub record ShowsAfter (rows cols : ℕ) (bytes text : List ℕ) : Type 0 where
  pub after : State
  pub runs : Runs (reset rows cols) bytes after
  pub spelled : text ≡ screen_text after.screen

-- the run of the bytes gets stuck at this place
pub record SticksIn (rows cols : ℕ) (bytes : List ℕ) (at : ℕ) : Type 0 where
  pub after : State
  pub sticks : Sticks (reset rows cols) bytes at after

abbrev pub IsStuckFailure : ℕ → ℕ → List ℕ → Failure → Type 0
IsStuckFailure rows cols bytes (Refused (Stuck stuck)) = SticksIn rows cols bytes stuck.at
IsStuckFailure rows cols bytes NoMemory = Unit {0}
IsStuckFailure rows cols bytes _ = ⊥

-- the reply is the screen after the bytes of the file at a path
pub record ShowsScreen (held : Held) (rows cols path : List ℕ) (reply : Reply) : Type 0 where
  pub height : ℕ
  pub width : ℕ
  pub given : SizeGiven rows cols height width
  pub shows : HasBytes (held.at path) longest_file (λ bytes. ShowsAfter height width bytes reply.text.items)
  pub notes : reply.notes.items ≡ []
  pub done : reply.failure ≡ None

-- the run of the bytes of the file at a path gets stuck at this place
pub record SticksAt (held : Held) (rows cols path : List ℕ) (at : ℕ) : Type 0 where
  pub height : ℕ
  pub width : ℕ
  pub given : SizeGiven rows cols height width
  pub sticks : HasBytes (held.at path) longest_file (λ bytes. SticksIn height width bytes at)

-- wrong words come first, then the size, then the file, then its bytes
abbrev pub FailsToFeed : Held → List ℕ → List ℕ → List ℕ → Failure → Type 0
FailsToFeed held rows cols path (Refused (Stuck stuck)) = SticksAt held rows cols path stuck.at
FailsToFeed held rows cols path (File told) = HasSize rows cols × (string_bytes told ≡ path)
FailsToFeed held rows cols path failure = LacksSize rows cols failure
