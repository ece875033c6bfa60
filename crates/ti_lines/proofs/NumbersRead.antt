-- Numbers read one after another.
use Rattle.std.proofs.Common.{◌≡◌, ℕ, suc, ◌+◌, ◌-◌, ◌<◌, List, [], ◌∷◌, ◌++◌, Option, Some, None, ap, ◌∙◌, arith}
use Rattle.std.specs.Option.{option_and_then}
use Rattle.ti_lines.specs.EffectReader.{number_at}
use Rattle.ti_lines.specs.Cut.{cut_at}
use Rattle.ti_lines.specs.RowLines.{numbers_before}

pub no_word : (count counter : ℕ) (done text : List ℕ) → counter < count → cut_at 32 text ≡ None → numbers_before (count - counter) done text ≡ None
no_word count counter done text lt h =
    let e : count - counter ≡ suc (count - (counter + 1)) = omega (arith, lt) in
    ap (λ (k : ℕ). numbers_before k done text) e
    ∙ ap (λ (o : Option (List ℕ × List ℕ)). option_and_then (λ p. option_and_then (λ n. numbers_before (count - (counter + 1)) (done ++ n ∷ []) p.1) (number_at p.0)) o) h

one_number : (count counter : ℕ) (done text word behind : List ℕ) → counter < count → cut_at 32 text ≡ Some (word, behind)
    → numbers_before (count - counter) done text ≡ option_and_then (λ n. numbers_before (count - (counter + 1)) (done ++ n ∷ []) behind) (number_at word)
one_number count counter done text word behind lt h =
    let e : count - counter ≡ suc (count - (counter + 1)) = omega (arith, lt) in
    ap (λ (k : ℕ). numbers_before k done text) e
    ∙ ap (λ (o : Option (List ℕ × List ℕ)). option_and_then (λ p. option_and_then (λ n. numbers_before (count - (counter + 1)) (done ++ n ∷ []) p.1) (number_at p.0)) o) h

pub no_number : (count counter : ℕ) (done text word behind : List ℕ) → counter < count → cut_at 32 text ≡ Some (word, behind) → number_at word ≡ None → numbers_before (count - counter) done text ≡ None
no_number count counter done text word behind lt h k =
    one_number count counter done text word behind lt h ∙ ap (λ (o : Option ℕ). option_and_then (λ n. numbers_before (count - (counter + 1)) (done ++ n ∷ []) behind) o) k

pub next_number : (count counter : ℕ) (done text word behind : List ℕ) (n : ℕ) → counter < count → cut_at 32 text ≡ Some (word, behind) → number_at word ≡ Some n
    → numbers_before (count - counter) done text ≡ numbers_before (count - (counter + 1)) (done ++ n ∷ []) behind
next_number count counter done text word behind n lt h k =
    one_number count counter done text word behind lt h ∙ ap (λ (o : Option ℕ). option_and_then (λ n. numbers_before (count - (counter + 1)) (done ++ n ∷ []) behind) o) k

pub last_number : (count counter : ℕ) (done text : List ℕ) → counter ≡ count → numbers_before (count - counter) done text ≡ Some (done, text)
last_number count counter done text e = let z : count - counter ≡ 0 = omega (arith, e) in ap (λ (k : ℕ). numbers_before k done text) z
