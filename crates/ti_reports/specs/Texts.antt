-- Bytes as text, since JSON has only text.
use Rattle.std.specs.Prelude.{◌≡◌, ℕ, List}
use Rattle.std.specs.Str.{IsUtf8}
use Rattle.ti_files.specs.Shown.{shown}

-- bytes that are text are taken as they are, and others are shown in octal
pub data IsShownAs (bytes text : List ℕ) : Type 0 where
  AsText : IsUtf8 bytes → text ≡ bytes → IsShownAs bytes text
  AsShown : (IsUtf8 bytes → ⊥) → text ≡ shown bytes → IsShownAs bytes text
