-- Members of a list.
use Rattle.std.specs.Prelude.{◌≡◌, ◌⊎◌, List, [], ◌∷◌}

-- the item is one of these
abbrev pub IsAmong : {X : Type 0} → X → List X → Type 0
IsAmong item [] = ⊥
IsAmong item (first ∷ others) = (first ≡ item) ⊎ IsAmong item others
