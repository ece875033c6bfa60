-- One more parameter is there.
use Rattle.std.proofs.Common.{◌≡◌, ℕ, List, [], ◌∷◌, ◌++◌, ◌+◌, ◌<◌, ◌≤◌, ◌∙◌, map, take, set, get_or, length, ap, sym, arith}
use Rattle.std.proofs.lemmas.List.{map_push, take_more, take_more_set}

pub filled_more : {A B V : Type 0} (f : A → V) (g : B → V) (params : List A) (given : List B) (i : ℕ) (a : A) (b : B)
    → length params ≡ 9 → length given ≤ 9 → i < length given → f a ≡ g (get_or given i b) → map f (take i params) ≡ map g (take i given)
    → map f (take (i + 1) (set params i a)) ≡ map g (take (i + 1) given)
filled_more f g params given i a b len most there same before =
    let room : i < length params = omega arith in
    ap (map f) (take_more_set params i a room) ∙ map_push f (take i params) a
    ∙ ap (λ vs. vs ++ f a ∷ []) before ∙ ap (λ v. map g (take i given) ++ v ∷ []) same
    ∙ sym (map_push g (take i given) (get_or given i b)) ∙ sym (ap (map g) (take_more given i b there))
