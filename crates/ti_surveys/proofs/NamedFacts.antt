-- The remarks about further paths that can't be read.
use Rattle.std.proofs.Common.{◌≡◌, ◌∙◌, ◌<◌, ◌+◌, ℕ, List, ◌∷◌, [], ◌++◌, length, take, get_or, ap, sym, add-one, append_assoc}
use Rattle.std.specs.Prelude.{map}
use Rattle.std.proofs.lemmas.List.{map-append}
use Rattle.ti_files.specs.Words.{texts_of}
use Rattle.ti_surveys.specs.Surveys.{further}
use Rattle.ti_surveys.proofs.SaidFacts.{taken_text}
use denote.Ref.{Bor}

-- the remark about one more path, after those before it
pub named_step : (words : List (Bor (List ℕ))) (n : ℕ) (d : Bor (List ℕ)) (first before after : List (List ℕ)) → n < length words → after ≡ before ++ further (get_or words n d).now ∷ [] → before ≡ first ++ map further (take n (texts_of words))
    → after ≡ first ++ map further (take (n + 1) (texts_of words))
named_step words n d first before after l added past =
    let front = take n (texts_of words) in
    let path = (get_or words n d).now in
    let taken : take (n + 1) (texts_of words) ≡ front ++ path ∷ [] = ap (λ (m : ℕ). take m (texts_of words)) (add-one n) ∙ taken_text words n d l in
    added ∙ (ap (λ (lines : List (List ℕ)). lines ++ further path ∷ []) past ∙ (append_assoc first (map further front) (further path ∷ [])
    ∙ ap (λ (lines : List (List ℕ)). first ++ lines) (sym (map-append further front (path ∷ [])) ∙ ap (map further) (sym taken))))
