-- (Serves the code alone.) How a text is written, word by word. Only the writer's own clauses cite this file.
use Rattle.std.specs.Prelude.{ℕ, List, [], ◌∷◌, ◌++◌}

-- the words before, and a space after them
abbrev pub begun : List ℕ → List ℕ
begun [] = []
begun (a ∷ front) = (a ∷ front) ++ 32 ∷ []

abbrev pub with_text : List ℕ → List ℕ → List ℕ
with_text front [] = front
with_text front (b ∷ bytes) = begun front ++ b ∷ bytes

abbrev pub with_texts : List ℕ → List (List ℕ) → List ℕ
with_texts front [] = front
with_texts front (t ∷ ts) = with_texts (with_text front t) ts
