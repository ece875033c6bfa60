-- Lists that have a part for each of some numbers.
use Rattle.std.specs.Prelude.{ℕ, zero, suc, ◌≡◌, List, [], ◌++◌}

-- a part for each number below this one, one after another
unfoldable pub AreParts : {X : Type 0} → (ℕ → List X → Type 0) → ℕ → List X → Type 0
AreParts Part zero all = all ≡ []
AreParts Part (suc n) all =
    (front : List _) × (own : List _) × (all ≡ front ++ own) × AreParts Part n front × Part n own
