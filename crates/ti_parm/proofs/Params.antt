-- The nine parameters, one after the other.
use Rattle.std.proofs.Common.{◌≡◌, ℕ, zero, suc, ◌≤◌, List, [], ◌∷◌, ◌++◌, get_or, take, drop, replicate, pos, refl, sym, ap, ◌∙◌, arith}
use lib.ListN.{get_or-eq_default}
use Rattle.ti_parm.specs.declared.param.Param.{Param}
use Rattle.ti_parm.specs.declared.param.Param.TheVariants.{Number as NumberParam}
use Rattle.ti_parm.specs.Value.{Value, Number, nine, value_of, values_of}

-- the nine parameters before they are cut
abbrev pub padded : List Param → List Value
padded given = values_of given ++ replicate 9 (Number (pos 0))

abbrev pub listed : List Param → List Param
listed given =
    let at = get_or given in
    let absent = NumberParam (pos 0) in
    at 0 absent ∷ at 1 absent ∷ at 2 absent ∷ at 3 absent ∷ at 4 absent ∷ at 5 absent ∷ at 6 absent ∷ at 7 absent ∷ at 8 absent ∷ []

pub listed-padded : (given : List Param) → values_of (listed given) ≡ take 9 (padded given)
listed-padded [] = refl
listed-padded (a ∷ []) = refl
listed-padded (a ∷ b ∷ []) = refl
listed-padded (a ∷ b ∷ c ∷ []) = refl
listed-padded (a ∷ b ∷ c ∷ d ∷ []) = refl
listed-padded (a ∷ b ∷ c ∷ d ∷ e ∷ []) = refl
listed-padded (a ∷ b ∷ c ∷ d ∷ e ∷ f ∷ []) = refl
listed-padded (a ∷ b ∷ c ∷ d ∷ e ∷ f ∷ g ∷ []) = refl
listed-padded (a ∷ b ∷ c ∷ d ∷ e ∷ f ∷ g ∷ h ∷ []) = refl
listed-padded (a ∷ b ∷ c ∷ d ∷ e ∷ f ∷ g ∷ h ∷ i ∷ rest) = refl

-- the first two parameters, and the others
pub first-nine : (given : List Param) → (value_of (get_or given 0 (NumberParam (pos 0))) ∷ value_of (get_or given 1 (NumberParam (pos 0))) ∷ drop 2 (nine (values_of given))) ≡ nine (values_of given)
unfolding nine
first-nine [] = refl
first-nine (a ∷ []) = refl
first-nine (a ∷ b ∷ rest) = refl

-- a parameter after the first two
pub later-nine : (given : List Param) (x y : Value) (k : ℕ) → 2 ≤ k → k ≤ 8 → value_of (get_or given k (NumberParam (pos 0))) ≡ get_or (x ∷ y ∷ drop 2 (nine (values_of given))) k (Number (pos 0))
unfolding nine
later-nine given x y zero h i = absurd (omega (arith, h))
later-nine given x y (suc zero) h i = absurd (omega (arith, h))
later-nine given x y (suc (suc zero)) h i = ap (λ l. get_or (x ∷ y ∷ drop 2 l) 2 (Number (pos 0))) (listed-padded given)
later-nine given x y (suc (suc (suc zero))) h i = ap (λ l. get_or (x ∷ y ∷ drop 2 l) 3 (Number (pos 0))) (listed-padded given)
later-nine given x y (suc (suc (suc (suc zero)))) h i = ap (λ l. get_or (x ∷ y ∷ drop 2 l) 4 (Number (pos 0))) (listed-padded given)
later-nine given x y (suc (suc (suc (suc (suc zero))))) h i = ap (λ l. get_or (x ∷ y ∷ drop 2 l) 5 (Number (pos 0))) (listed-padded given)
later-nine given x y (suc (suc (suc (suc (suc (suc zero)))))) h i = ap (λ l. get_or (x ∷ y ∷ drop 2 l) 6 (Number (pos 0))) (listed-padded given)
later-nine given x y (suc (suc (suc (suc (suc (suc (suc zero))))))) h i = ap (λ l. get_or (x ∷ y ∷ drop 2 l) 7 (Number (pos 0))) (listed-padded given)
later-nine given x y (suc (suc (suc (suc (suc (suc (suc (suc zero)))))))) h i = ap (λ l. get_or (x ∷ y ∷ drop 2 l) 8 (Number (pos 0))) (listed-padded given)
later-nine given x y (suc (suc (suc (suc (suc (suc (suc (suc (suc k))))))))) h i = absurd (omega (arith, i))

-- there is no parameter after the ninth
pub past-nine : (given : List Param) (x y : Value) (k : ℕ) → 9 ≤ k → Number (pos 0) ≡ get_or (x ∷ y ∷ drop 2 (nine (values_of given))) k (Number (pos 0))
unfolding nine
past-nine given x y k h =
    let z = Number (pos 0) in
    sym (get_or-eq_default (x ∷ y ∷ drop 2 (values_of (listed given))) z h)
    ∙ ap (λ l. get_or (x ∷ y ∷ drop 2 l) k z) (listed-padded given)
