use Rattle.std.proofs.Common.{◌≡◌, ◌<◌, ◌++◌, ◌==◌, List, [], ◌∷◌, ℕ, true, false, length, refl, sym, ap, ◌∙◌, arith}
use Rattle.std.proofs.lemmas.Bool.Decides.{nat_tests}
use Rattle.ti_lines.specs.EffectText as spec
use Rattle.ti_lines.specs.EffectWriter.{with_texts}
use Rattle.ti_lines.proofs.Joins.{dashed, undashed}
use Rattle.ti_lines.proofs.effect_texts.push_effect.Goals as goal

none_left : (xs : List ℕ) (n : ℕ) → n ≡ length xs → true ≡ (n == 0) → xs ≡ []
none_left [] n e h = refl
none_left (x ∷ xs) n e h = absurd (grind (arith, nat_tests))

some_left : (xs : List ℕ) (n : ℕ) → n ≡ length xs → false ≡ (n == 0) → 0 < length xs
some_left xs n e h = grind (arith, nat_tests)

pub returns-in_ok-push : goal.returns-in_ok-push
returns-in_ok-push c =
    let e : c.push_words.new.text.items ≡ with_texts [] (spec.texts c.args.effect.now) = c.in_ok-push_words.ensures ∙ ap (λ (l : List ℕ). with_texts l (spec.texts c.args.effect.now)) c.clear.ensures.items in
    let n : c.push_words.new.text.items ≡ [] = none_left c.push_words.new.text.items c.push_words.new.text.len c.push_words.new.text.ok.0 c.if-is_empty.ensures in
    c.in_ok-push.ensures.items ∙ ap (λ (l : List ℕ). l ++ 45 ∷ []) n ∙ sym (dashed c.args.effect.now (sym e ∙ n))

pub returns-else-is_empty : goal.returns-else-is_empty
returns-else-is_empty c =
    let e : c.push_words.new.text.items ≡ with_texts [] (spec.texts c.args.effect.now) = c.in_ok-push_words.ensures ∙ ap (λ (l : List ℕ). with_texts l (spec.texts c.args.effect.now)) c.clear.ensures.items in
    let n : 0 < length c.push_words.new.text.items = some_left c.push_words.new.text.items c.push_words.new.text.len c.push_words.new.text.ok.0 c.if-is_empty.ensures in
    e ∙ sym (undashed c.args.effect.now (omega (arith, n, ap length e)))
