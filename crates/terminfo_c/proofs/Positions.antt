-- One more element is the value at its position.
use Rattle.std.proofs.Common.{◌≡◌, ◌+◌, ◌<◌, ℕ, List, length, slice_index_or, slice_set, inl, inr, refl, sym, subst, arith}
use Rattle.std.proofs.lemmas.Bool.{cases_lt}
use Rattle.std.proofs.lemmas.Grind.{get_or-set_at}
use Rattle.std.proofs.lemmas.List.{get_or-set_other}

pub one_more : {A B : Type 0} (view : A → B) (value : ℕ → B) (l : List A) (n : ℕ) (x : A) → n < length l
    → ((k : ℕ) (d : A) → k < n → view (slice_index_or l k d) ≡ value k) → view x ≡ value n
    → (k : ℕ) (d : A) → k < n + 1 → view (slice_index_or (slice_set l n x) k d) ≡ value k
one_more view value l n x room before here k d lt = elim (cases_lt k n) [
  | inl less ↦ subst (λ y. view y ≡ value k) (sym (get_or-set_other l n k x d (λ e. omega (arith, less, e)))) (before k d less)
  | inr past ↦ (let at : n ≡ k = omega (arith, past, lt) in
      subst (λ m. view (slice_index_or (slice_set l n x) m d) ≡ value m) at (subst (λ y. view y ≡ value n) (sym (get_or-set_at l n n x d refl room)) here))
]
