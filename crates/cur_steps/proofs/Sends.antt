-- The bytes that were sent, piece after piece.
use Rattle.std.proofs.Common.{◌≡◌, ℕ, ◌+◌, ◌-◌, ◌<◌, ◌≤◌, ◌⊎◌, List, [], length, take, drop, sym, subst, ◌∙◌, inl, inr, arith}
use Rattle.std.proofs.Math.Seq.{take-add}
use Rattle.std.proofs.lemmas.List.{take_rest, take-append-drop, length-drop, append-nil}
use Rattle.cur_steps.specs.Wire.{IsWire, Rose, StopsIn, last_count}
use Rattle.std.proofs.lemmas.Bool.{cases_lt}

-- the first bytes were sent, and then some of the rest
pub more_went : {W : Type 0} (went : W → W → List ℕ → Type 0) (failures : W → ℕ) → IsWire went failures → (a b c : W) (bytes : List ℕ) (m n : ℕ)
    → went a b (take m bytes) → went b c (take n (take (length bytes - m) (drop m bytes))) → went a c (take (m + n) bytes)
more_went {W} went failures laws a b c bytes m n before piece =
    let P : List ℕ → Type 0 = went a c in
    let Q : List ℕ → Type 0 = λ l. went b c (take n l) in
    subst P (sym (take-add m n bytes)) (laws.joins a b c _ _ before (subst Q (take_rest bytes m) piece))

rose_at_last : (a b c : ℕ) → a ≤ b → b ≡ last_count → c ≡ last_count → (a < b) ⊎ (b ≤ a) → Rose a c
rose_at_last a b c le e f (inl lt) = inl (omega arith)
rose_at_last a b c le e f (inr ge) = let same : a ≡ b = omega arith in inr (same ∙ e, f)

-- a new failure is one since any earlier count
pub rose_later : (a b c : ℕ) → a ≤ b → Rose b c → Rose a c
rose_later a b c le (inl lt) = inl (omega arith)
rose_later a b c le (inr last) = rose_at_last a b c le last.0 last.1 (cases_lt a b)

-- the first bytes were sent, and the next send failed
pub stopped : {W : Type 0} (went : W → W → List ℕ → Type 0) (failures : W → ℕ) → IsWire went failures → (a b c : W) (bytes : List ℕ) (m : ℕ) → m < length bytes
    → went a b (take m bytes) → went b c [] → Rose (failures b) (failures c) → StopsIn went failures a c bytes
stopped {W} went failures laws a b c bytes m some before nothing rose =
    let P : List ℕ → Type 0 = went a c in
    record {
      front = take m bytes;
      back = drop m bytes;
      parts = sym (take-append-drop m bytes);
      some_left = omega (arith, length-drop m bytes);
      sent = subst P (append-nil (take m bytes)) (laws.joins a b c _ _ before nothing);
      failed = rose_later (failures a) (failures b) (failures c) (laws.counts a b _ before) rose;
    }
