-- The numbers in the bytes, one by one.
use Rattle.std.proofs.Common.{◌≡◌, ℕ, ◌+◌, ◌*◌, ◌<◌, ◌≤◌, zero, suc, List, [], ◌∷◌, length, get_or, refl, arith, Some, None}
use Rattle.std.specs.Prelude.{slice_get}
use Rattle.ti_compiled.specs.Layout.{words, longs}

pub words_at : (bytes : List ℕ) (k : ℕ) → 2 * k + 1 < length bytes → slice_get (words bytes) k ≡ Some (get_or bytes (2 * k) 0 + 256 * get_or bytes (2 * k + 1) 0)
words_at [] k h = absurd (omega arith)
words_at (a ∷ []) k h = absurd (omega arith)
words_at (a ∷ b ∷ rest) zero h = refl
words_at (a ∷ b ∷ rest) (suc k) h =
    let e : 2 * suc k ≡ suc (suc (2 * k)) = omega arith in
    let f : 2 * suc k + 1 ≡ suc (suc (2 * k + 1)) = omega arith in
    rw (f, e) (words_at rest k (omega arith))

pub words_past : (bytes : List ℕ) (k : ℕ) → length bytes ≤ 2 * k + 1 → slice_get (words bytes) k ≡ None
words_past [] k h = refl
words_past (a ∷ []) k h = refl
words_past (a ∷ b ∷ rest) zero h = absurd (omega arith)
words_past (a ∷ b ∷ rest) (suc k) h = words_past rest k (omega arith)

pub longs_at : (bytes : List ℕ) (k : ℕ) → 4 * k + 3 < length bytes → slice_get (longs bytes) k ≡ Some (get_or bytes (4 * k) 0 + 256 * (get_or bytes (4 * k + 1) 0 + 256 * (get_or bytes (4 * k + 2) 0 + 256 * get_or bytes (4 * k + 3) 0)))
longs_at [] k h = absurd (omega arith)
longs_at (a ∷ []) k h = absurd (omega arith)
longs_at (a ∷ b ∷ []) k h = absurd (omega arith)
longs_at (a ∷ b ∷ c ∷ []) k h = absurd (omega arith)
longs_at (a ∷ b ∷ c ∷ d ∷ rest) zero h = refl
longs_at (a ∷ b ∷ c ∷ d ∷ rest) (suc k) h =
    let e : 4 * suc k ≡ suc (suc (suc (suc (4 * k)))) = omega arith in
    let f : 4 * suc k + 1 ≡ suc (suc (suc (suc (4 * k + 1)))) = omega arith in
    let g : 4 * suc k + 2 ≡ suc (suc (suc (suc (4 * k + 2)))) = omega arith in
    let i : 4 * suc k + 3 ≡ suc (suc (suc (suc (4 * k + 3)))) = omega arith in
    rw (f, g, i, e) (longs_at rest k (omega arith))

pub longs_past : (bytes : List ℕ) (k : ℕ) → length bytes ≤ 4 * k + 3 → slice_get (longs bytes) k ≡ None
longs_past [] k h = refl
longs_past (a ∷ []) k h = refl
longs_past (a ∷ b ∷ []) k h = refl
longs_past (a ∷ b ∷ c ∷ []) k h = refl
longs_past (a ∷ b ∷ c ∷ d ∷ rest) zero h = absurd (omega arith)
longs_past (a ∷ b ∷ c ∷ d ∷ rest) (suc k) h = longs_past rest k (omega arith)
