-- One more part.
use Rattle.std.proofs.Common.{◌≡◌, ◌+◌, ℕ, List, [], ◌++◌, sym, subst, add-one}
use Rattle.ti_steps.specs.Parts.{AreParts}

pub no_parts : {X : Type 0} (Part : ℕ → List X → Type 0) (all : List X) → all ≡ [] → AreParts Part 0 all
unfolding AreParts
no_parts Part all is = is

-- the part of the next number
pub parts_next : {X : Type 0} (Part : ℕ → List X → Type 0) (n : ℕ) (front own all : List X) → all ≡ front ++ own → AreParts Part n front → Part n own → AreParts Part (n + 1) all
unfolding AreParts
parts_next Part n front own all is h p = subst (λ (k : ℕ). AreParts Part k all) (sym (add-one n)) (front, own, is, h, p)
