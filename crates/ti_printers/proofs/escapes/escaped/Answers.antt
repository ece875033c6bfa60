use Rattle.std.proofs.Common.{◌≡◌, ◌<◌, ◌∙◌, ◌++◌, ◌+◌, ◌∷◌, [], ℕ, List, ap, sym, arith, flat_map, get_or, length, take}
use Rattle.std.proofs.lemmas.Grind.{flat_map-append}
use Rattle.std.proofs.lemmas.List.{append-nil, take_more}
use Rattle.ti_printers.specs.Escapes.{json_char}
use Rattle.ti_printers.proofs.escapes.escaped.Goals as goal

one_more : (f : ℕ → List ℕ) (xs : List ℕ) (n x : ℕ) (before more : List ℕ) → n < length xs → x ≡ get_or xs n x → before ≡ flat_map f (take n xs) → more ≡ before ++ f x → more ≡ flat_map f (take (n + 1) xs)
one_more f xs n x before more l is h m =
    m ∙ (ap (λ (b : List ℕ). b ++ f x) h ∙ (ap (λ (y : ℕ). flat_map f (take n xs) ++ f y) is ∙ sym (ap (λ (ys : List ℕ). flat_map f ys) (take_more xs n x l)
    ∙ (flat_map-append f (take n xs) (get_or xs n x ∷ []) ∙ ap (λ (t : List ℕ). flat_map f (take n xs) ++ t) (append-nil (f (get_or xs n x)))))))

pub loop-letter-preserved : goal.loop-letter-preserved
loop-letter-preserved c =
    let here : c.loop-letter.letter-index < length c.args.letters.now = omega arith in
    one_more json_char c.args.letters.now c.loop-letter.letter-index _ c.loop-letter.line.items c.push_char.new.line.items here c.letter-item.is c.loop-letter.invariant c.in_ok-push_char.ensures
