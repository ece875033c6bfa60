-- The lines that a watcher of a survey has heard.
use Rattle.std.specs.Prelude.{◌≡◌, ℕ, Bool, false, List, Option}
use Rattle.std.specs.Io.KnownBytes.{Appends}

-- a watcher that hasn't failed now had not failed before either, and has heard these lines since, and nothing else
abbrev pub Hears : {W : Type 0} → (W → Option (List ℕ)) → (W → Bool) → W → W → List ℕ → Type 0
Hears heard has_failed before after lines =
    has_failed after ≡ false → (has_failed before ≡ false) × Appends (heard before) (heard after) lines
