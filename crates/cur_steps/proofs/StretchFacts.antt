-- A list with one more place known.
use Rattle.std.proofs.Common.{◌≡◌, ◌+◌, ◌<◌, ℕ, List, length, slice_index_or, slice_set, inl, inr, refl, sym, subst, arith}
use Rattle.std.proofs.lemmas.Bool.{cases_lt}
use Rattle.std.proofs.lemmas.Grind.{get_or-set_at}
use Rattle.std.proofs.lemmas.List.{get_or-set_other}

-- a property of the first n places, and of the element put into the next one, holds of the first n + 1 places
pub one_more : {A : Type 0} (P : ℕ → A → Type 0) (l : List A) (n : ℕ) (x d : A) → n < length l → ((k : ℕ) → k < n → P k (slice_index_or l k d)) → P n x → (k : ℕ) → k < n + 1 → P k (slice_index_or (slice_set l n x) k d)
one_more P l n x d room before here k lt = elim (cases_lt k n) [
  | inl less ↦ subst (P k) (sym (get_or-set_other l n k x d (λ e. omega (arith, less, e)))) (before k less)
  | inr past ↦ (let at : n ≡ k = omega (arith, past, lt) in
      subst (λ m. P m (slice_index_or (slice_set l n x) m d)) at (subst (P n) (sym (get_or-set_at l n n x d refl room)) here))
]
