use Rattle.std.proofs.Common.{◌≡◌, ◌<◌, ◌≤◌, ◌+◌, ℕ, zero, suc, List, [], ◌∷◌, ◌++◌, length, drop, get_or, append_assoc, append-nil, refl, sym, ap, ◌∙◌, arith}
use Rattle.hex.specs.Hex.{encode_with, encode_lower}
use Rattle.ti_lines.proofs.line_writer.push_digits.Goals as goal

digits_ahead : (bytes : List ℕ) (k : ℕ) → k < length bytes → encode_lower (drop k bytes) ≡ encode_lower (get_or bytes k 0 ∷ []) ++ encode_lower (drop (k + 1) bytes)
unfolding encode_with
digits_ahead [] k h = absurd (omega (arith, h))
digits_ahead (b ∷ bytes) zero h = refl
digits_ahead (b ∷ bytes) (suc k) h = let e : suc k + 1 ≡ suc (k + 1) = omega arith in rw e (digits_ahead bytes k (omega (arith, h)))

none_ahead : (bytes : List ℕ) (k : ℕ) → length bytes ≤ k → encode_lower (drop k bytes) ≡ []
unfolding encode_with
none_ahead [] zero h = refl
none_ahead [] (suc k) h = refl
none_ahead (b ∷ bytes) zero h = absurd (omega (arith, h))
none_ahead (b ∷ bytes) (suc k) h = none_ahead bytes k (omega (arith, h))

pub loop-byte-preserved : goal.loop-byte-preserved
loop-byte-preserved c =
    let ahead = encode_lower (drop (c.loop-byte.byte-index + 1) c.args.bytes.now) in
    let now = encode_lower (get_or c.args.bytes.now c.loop-byte.byte-index 0 ∷ []) in
    ap (λ (l : List ℕ). l ++ ahead) c.in_ok-push_byte.ensures
    ∙ (append_assoc c.loop-byte.text.items now ahead
    ∙ (ap (λ (l : List ℕ). c.loop-byte.text.items ++ l) (sym (digits_ahead c.args.bytes.now c.loop-byte.byte-index c.loop-byte-test.true)) ∙ c.loop-byte.invariant))

pub returns : goal.returns
returns c =
    let past : length c.args.bytes.now ≤ c.loop-byte.byte-index = omega (arith, c.loop-byte-test.false) in
    sym (append-nil c.loop-byte.text.items) ∙ (ap (λ (l : List ℕ). c.loop-byte.text.items ++ l) (sym (none_ahead c.args.bytes.now c.loop-byte.byte-index past)) ∙ c.loop-byte.invariant)
