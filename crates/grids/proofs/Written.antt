-- Text written into a line, a byte at a time.
use Rattle.std.proofs.Common.{◌≡◌, ℕ, ◌+◌, ◌<◌, List, [], ◌∷◌, ◌++◌, length, take, get_or, set, sym, ap, ◌∙◌, arith}
use Rattle.std.proofs.lemmas.List.{take_more, length-take}
use Rattle.grids.specs.Grids.{written}

pub written_more : {A : Type 0} (f : ℕ → A) (j : ℕ) (bytes : List ℕ) (b : ℕ) (line : List A) → written f j (bytes ++ b ∷ []) line ≡ set (written f j bytes line) (j + length bytes) (f b)
written_more f j [] b line = ap (λ (k : ℕ). set line k (f b)) (omega arith)
written_more f j (x ∷ bytes) b line = written_more f (j + 1) bytes b (set line j (f x)) ∙ ap (λ (k : ℕ). set (written f (j + 1) bytes (set line j (f x))) k (f b)) (omega arith)

-- one more byte of a text is written
pub write_step : {A : Type 0} (f : ℕ → A) (j k : ℕ) (bytes : List ℕ) (line cells : List A) (x : A) → k < length bytes → x ≡ f (get_or bytes k 0) → cells ≡ written f j (take k bytes) line
    → set cells (j + k) x ≡ written f j (take (k + 1) bytes) line
write_step {A} f j k bytes line cells x lt e h =
    let n : k ≡ length (take k bytes) = omega (arith, length-take k bytes) in
    ap (λ (l : List A). set l (j + k) x) h ∙ ap (λ (y : A). set (written f j (take k bytes) line) (j + k) y) e
    ∙ ap (λ (m : ℕ). set (written f j (take k bytes) line) (j + m) (f (get_or bytes k 0))) n
    ∙ sym (written_more f j (take k bytes) (get_or bytes k 0) line) ∙ ap (λ (l : List ℕ). written f j l line) (sym (take_more bytes k 0 lt))
