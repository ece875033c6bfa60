-- A line among those that are kept, by its number.
use Rattle.std.proofs.Common.{◌≡◌, ◌∙◌, ◌-◌, ◌++◌, ℕ, zero, suc, List, [], ◌∷◌, Option, Some, None, Bor, ap, append-nil, append_assoc, arith, refl, sym}
use Rattle.std.specs.Prelude.{map, option_map, slice_get}
use Rattle.std.specs.Slice.{IsItemAt}
use Rattle.std.proofs.lemmas.List.{map-append}
use Rattle.std.proofs.lemmas.Option.{slice_get-map}
use Rattle.ti_sources.specs.Columns.{line_in, or_empty}
use Rattle.ti_sources.proofs.LinedFacts.{lent}
use Rattle.ti_source.specs.Layout.{lines_of}

-- a number from 1, and the place of its line
pub line_numbered : (lines : List (List ℕ)) (number : ℕ) → (number ≡ 0 → ⊥) → or_empty (slice_get lines (number - 1)) ≡ line_in lines number
line_numbered lines zero some = absurd (some refl)
line_numbered lines (suc place) some = let e : suc place - 1 ≡ place = omega arith in rw e refl

lent_line : (lines : List (Bor (List ℕ))) (place : ℕ) (found : Option (Bor (Bor (List ℕ)))) → IsItemAt lines place found
    → slice_get (map (λ line. line.now) lines) place ≡ option_map (λ line. line.now) (option_map (λ line. line.now) found)
lent_line lines place found is =
    slice_get-map (λ (line : Bor (List ℕ)). line.now) lines place ∙ ap (option_map (λ (line : Bor (List ℕ)). line.now)) (lent lines place found is)

pub line_there : (lines : List (Bor (List ℕ))) (place : ℕ) (found : Option (Bor (Bor (List ℕ)))) (line : Bor (Bor (List ℕ))) → IsItemAt lines place found → found ≡ Some line
    → line.now.now ≡ or_empty (slice_get (map (λ line. line.now) lines) place)
line_there lines place found line is some =
    sym (ap or_empty (lent_line lines place found is) ∙ ap (λ (o : Option (Bor (Bor (List ℕ)))). or_empty (option_map (λ line. line.now) (option_map (λ line. line.now) o))) some)

pub no_line : (lines : List (Bor (List ℕ))) (place : ℕ) (found : Option (Bor (Bor (List ℕ)))) → IsItemAt lines place found → found ≡ None
    → [] ≡ or_empty (slice_get (map (λ line. line.now) lines) place)
no_line lines place found is none =
    sym (ap or_empty (lent_line lines place found is) ∙ ap (λ (o : Option (Bor (Bor (List ℕ)))). or_empty (option_map (λ line. line.now) (option_map (λ line. line.now) o))) none)

-- ---- the lines of a text, one after another

pub one_more : (all more : List (Bor (List ℕ))) (line : Bor (List ℕ)) (rest behind : List ℕ) (whole : List (List ℕ)) → lines_of rest ≡ line.now ∷ lines_of behind → more ≡ all ++ line ∷ []
    → map (λ line. line.now) all ++ lines_of rest ≡ whole → map (λ line. line.now) more ++ lines_of behind ≡ whole
one_more all more line rest behind whole cut longer was =
    let now = λ (line : Bor (List ℕ)). line.now in
    ap (λ lines. map now lines ++ lines_of behind) longer
    ∙ (ap (λ lines. lines ++ lines_of behind) (map-append now all (line ∷ []))
    ∙ (append_assoc (map now all) (line.now ∷ []) (lines_of behind) ∙ (sym (ap (λ lines. map now all ++ lines) cut) ∙ was)))

pub all_of : (all : List (Bor (List ℕ))) (rest : List ℕ) (whole : List (List ℕ)) → lines_of rest ≡ [] → map (λ line. line.now) all ++ lines_of rest ≡ whole → map (λ line. line.now) all ≡ whole
all_of all rest whole cut was =
    let now = λ (line : Bor (List ℕ)). line.now in
    sym (append-nil (map now all)) ∙ (sym (ap (λ lines. map now all ++ lines) cut) ∙ was)
