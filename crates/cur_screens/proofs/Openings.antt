-- Lists of marks in which all is marked from a number on.
use Rattle.std.proofs.Common.{◌≡◌, ℕ, ◌+◌, ◌<◌, ◌≤◌, true, [], ◌∷◌, length, set, suc, zero, refl, sym, ap, ◌∙◌, arith, replicate}
use Rattle.cur_screens.specs.Marks.{Marking, none_marked}
use Rattle.cur_screens.specs.Touched.{AreFull, FillsAll, Markings, all_marked, full_from, grid_marks}

abbrev pub filled : Marking → Marking
filled m = record m { all = true }

pub length_full_from : (n : ℕ) (t : Markings) → length (full_from n t) ≡ length t
length_full_from zero [] = refl
length_full_from (suc n) [] = refl
length_full_from zero (m ∷ t) = ap (λ (l : ℕ). suc l) (length_full_from zero t)
length_full_from (suc n) (m ∷ t) = ap (λ (l : ℕ). suc l) (length_full_from n t)

-- a grid before the number
pub used_at : (n : ℕ) (t : Markings) (k : ℕ) → k < n → grid_marks (full_from n t) k ≡ grid_marks t k
used_at zero t k lt = absurd (omega (arith, lt))
used_at (suc n) [] k lt = refl
used_at (suc n) (m ∷ t) zero lt = refl
used_at (suc n) (m ∷ t) (suc k) lt = used_at n t k (omega (arith, lt))

-- a grid from the number on
pub full_at : (n : ℕ) (t : Markings) (k : ℕ) → n ≤ k → grid_marks (full_from n t) k ≡ filled (grid_marks t k)
full_at zero [] k le = refl
full_at (suc n) [] k le = refl
full_at zero (m ∷ t) zero le = refl
full_at zero (m ∷ t) (suc k) le = full_at zero t k (omega arith)
full_at (suc n) (m ∷ t) zero le = absurd (omega (arith, le))
full_at (suc n) (m ∷ t) (suc k) le = full_at n t k (omega (arith, le))

pub is_full_at : (n : ℕ) (t : Markings) (k : ℕ) → n ≤ k → (grid_marks (full_from n t) k).all ≡ true
is_full_at n t k le = ap (λ (m : Marking). m.all) (full_at n t k le)

pub set_open : (n : ℕ) (t : Markings) (k : ℕ) (m : Marking) → k < n → full_from n (set t k m) ≡ set (full_from n t) k m
set_open zero t k m lt = absurd (omega (arith, lt))
set_open (suc n) [] k m lt = refl
set_open (suc n) (x ∷ t) zero m lt = refl
set_open (suc n) (x ∷ t) (suc k) m lt = ap (λ (l : Markings). x ∷ l) (set_open n t k m (omega (arith, lt)))

-- one more grid is marked by itself
opened_next : (n : ℕ) (t : Markings) → full_from (suc n) (set t n (filled (grid_marks t n))) ≡ full_from n t
opened_next zero [] = refl
opened_next (suc n) [] = refl
opened_next zero (m ∷ t) = refl
opened_next (suc n) (m ∷ t) = ap (λ (l : Markings). m ∷ l) (opened_next n t)

pub opened : (n : ℕ) (t : Markings) → full_from (n + 1) (set t n (filled (grid_marks t n))) ≡ full_from n t
opened n t = let e : n + 1 ≡ suc n = omega arith in ap (λ (k : ℕ). full_from k (set t n (filled (grid_marks t n)))) e ∙ opened_next n t

pub lines_at : (n : ℕ) (t : Markings) (k : ℕ) → (grid_marks (full_from n t) k).lines ≡ (grid_marks t k).lines
lines_at zero [] k = refl
lines_at (suc n) [] k = refl
lines_at zero (m ∷ t) zero = refl
lines_at zero (m ∷ t) (suc k) = lines_at zero t k
lines_at (suc n) (m ∷ t) zero = refl
lines_at (suc n) (m ∷ t) (suc k) = lines_at n t k

pub none_open : (t : Markings) → AreFull (full_from 0 t)
none_open t k = is_full_at 0 t k (omega arith)

pub all_closed : (n : ℕ) (t : Markings) → FillsAll (full_from n t) (full_from 0 t)
all_closed n t = record {
  size = length_full_from 0 t ∙ sym (length_full_from n t);
  full = none_open t;
  lines = λ k. lines_at 0 t k ∙ sym (lines_at n t k);
}

pub new_marks : (n rows : ℕ) (t : Markings) → t ≡ replicate n (none_marked rows) → full_from 0 t ≡ replicate n (all_marked rows)
new_marks n rows t is = ap (full_from 0) is ∙ filled_replicate n rows
  where
    filled_replicate : (n rows : ℕ) → full_from 0 (replicate n (none_marked rows)) ≡ replicate n (all_marked rows)
    filled_replicate zero rows = refl
    filled_replicate (suc n) rows = ap (λ (l : Markings). all_marked rows ∷ l) (filled_replicate n rows)
