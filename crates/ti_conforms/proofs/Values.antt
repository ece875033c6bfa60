-- The parameters of a row as values, one after another.
use Rattle.std.proofs.Common.{◌≡◌, ℕ, ◌+◌, ◌<◌, ℤ, pos, List, [], ◌∷◌, ◌++◌, length, get_or, take, sym, ap, ◌∙◌}
use Rattle.std.proofs.Common.{to_z, of_z, w32, SFits}
use Rattle.std.proofs.lemmas.Int.{to_z-of_z}
use Rattle.std.proofs.lemmas.List.{take_more, map-append}
use Rattle.ti_parm.specs.declared.param.Param.{Param}
use Rattle.ti_parm.specs.declared.param.Param.TheVariants.{Number as NumberParam}
use Rattle.ti_parm.specs.Value.{Value, Number, value_of, values_of}
use Rattle.ti_conforms.specs.Sends.{numbers}

pub values_more : (old new : List Param) (items : List ℕ) (i : ℕ) (z : ℤ) (d : ℕ) → i < length items → new ≡ old ++ NumberParam z ∷ [] → z ≡ pos (get_or items i d)
    → values_of old ≡ numbers (take i items) → values_of new ≡ numbers (take (i + 1) items)
values_more old new items i z d lt e n h =
    ap values_of e ∙ (map-append value_of old (NumberParam z ∷ [])
    ∙ (ap (λ (l : List Value). l ++ Number z ∷ []) h ∙ (ap (λ (x : ℤ). numbers (take i items) ++ Number x ∷ []) n
    ∙ (sym (map-append (λ m. Number (pos m)) (take i items) (get_or items i d ∷ [])) ∙ ap numbers (sym (take_more items i d lt))))))

pub passed : (old new : List Param) (z : ℤ) → SFits w32 z → new ≡ old ++ NumberParam (to_z w32 (of_z w32 z)) ∷ [] → new ≡ old ++ NumberParam z ∷ []
passed old new z fits e = e ∙ ap (λ (x : ℤ). old ++ NumberParam x ∷ []) (to_z-of_z w32 z fits)
