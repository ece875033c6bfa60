-- A list's last byte, and the bytes before the first NUL.
use Rattle.std.proofs.Common.{◌≡◌, ◌≢◌, zero, suc, take, ℕ, ◌-◌, ◌<◌, false, List, [], ◌∷◌, length, get_or, refl, ap, arith, nat_eq, sub-one}
use Rattle.std.proofs.lemmas.Bool.Decides.{nat_tests}
use Rattle.ti_compiled.specs.Layout.{ends_with_nul}
use Rattle.ti_compiled.specs.Contents.{before_nul}

last_of : (b c : ℕ) (rest : List ℕ) → nat_eq (get_or (c ∷ rest) (length rest) 0) 0 ≡ ends_with_nul (c ∷ rest)
last_of b c [] = refl
last_of b c (d ∷ rest) = last_of c d rest

-- the last byte of a nonempty list is at its length less one
pub ends_last : (bytes : List ℕ) → nat_eq (length bytes) 0 ≡ false → nat_eq (get_or bytes (length bytes - 1) 0) 0 ≡ ends_with_nul bytes
ends_last [] h = cc
ends_last (b ∷ rest) h = rw sub-one (last_of b b rest)

unequal : (b : ℕ) → b ≢ 0 → nat_eq b 0 ≡ false
unequal b h = grind (arith, nat_tests)

-- the bytes before the first one that is a NUL
pub before_nul_at : (bytes : List ℕ) (n : ℕ) → n < length bytes → ((k : ℕ) → k < n → get_or bytes k 0 ≢ 0) → get_or bytes n 0 ≡ 0 → take n bytes ≡ before_nul bytes
before_nul_at [] n h below at = absurd (omega arith)
before_nul_at (b ∷ rest) zero h below at = rw at refl
before_nul_at (b ∷ rest) (suc n) h below at =
    rw (unequal b (below 0 (omega arith))) (ap (λ xs. b ∷ xs) (before_nul_at rest n (omega arith) (λ k l. below (suc k) (omega arith)) at))

pub before_nul_all : (bytes : List ℕ) → ((k : ℕ) → k < length bytes → get_or bytes k 0 ≢ 0) → bytes ≡ before_nul bytes
before_nul_all [] below = refl
before_nul_all (b ∷ rest) below =
    rw (unequal b (below 0 (omega arith))) (ap (λ xs. b ∷ xs) (before_nul_all rest (λ k l. below (suc k) (omega arith))))
