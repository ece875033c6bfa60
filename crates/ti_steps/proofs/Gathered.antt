-- One more remedy.
use Rattle.std.proofs.Common.{◌≡◌, ◌<◌, ◌+◌, ℕ, List, [], ◌∷◌, ◌++◌, length, take, get_or, sym, subst}
use Rattle.std.proofs.lemmas.List.{take_more}
use Rattle.ti_steps.specs.Remedies.{ArePlaced, IsPlaced}
use Rattle.ti_steps.specs.declared.advice.Advice.{Advice}
use Rattle.ti_steps.specs.declared.advice.Remedy.{Remedy}
use Rattle.ti_source.specs.declared.types.RawEntry.{RawEntry}

placed_end : (raws : List RawEntry) (root : ℕ) (advices : List Advice) (remedies : List Remedy) (advice : Advice) (remedy : Remedy) → ArePlaced raws root advices remedies → IsPlaced raws root advice remedy → ArePlaced raws root (advices ++ advice ∷ []) (remedies ++ remedy ∷ [])
placed_end raws root [] [] advice remedy h p = (p, tt)
placed_end raws root [] (r ∷ remedies) advice remedy h p = absurd h
placed_end raws root (a ∷ advices) [] advice remedy h p = absurd h
placed_end raws root (a ∷ advices) (r ∷ remedies) advice remedy h p = (h.0, placed_end raws root advices remedies advice remedy h.1 p)

-- the remedy of the next advice of a list
pub placed_next : (raws : List RawEntry) (root : ℕ) (advices : List Advice) (n : ℕ) (remedies : List Remedy) (more : List Remedy) (advice : Advice) (remedy : Remedy) → more ≡ remedies ++ remedy ∷ [] → n < length advices → advice ≡ get_or advices n advice → ArePlaced raws root (take n advices) remedies → IsPlaced raws root advice remedy → ArePlaced raws root (take (n + 1) advices) more
placed_next raws root advices n remedies more advice remedy pushed l is h p =
    subst (λ (items : List Advice). ArePlaced raws root items more) (sym (take_more advices n advice l))
    (subst (λ (rs : List Remedy). ArePlaced raws root (take n advices ++ get_or advices n advice ∷ []) rs) (sym pushed) (placed_end raws root (take n advices) remedies (get_or advices n advice) remedy h (subst (λ (a : Advice). IsPlaced raws root a remedy) is p)))
