-- The texts of names, one after another.
use Rattle.std.proofs.Common.{◌≡◌, ◌<◌, ◌+◌, ℕ, zero, suc, List, [], ◌∷◌, ◌++◌, arith, get_or, length, refl, take}
use Rattle.std.specs.Prelude.{String, string_bytes}
use Rattle.std.specs.declared.alloc.Global.{Global}
use denote.Ref.{Bor}
use Rattle.ti_reports.specs.Openings.{IsNameText}
use Rattle.ti_reports.specs.Texts.{IsShownAs}
use Rattle.ti_verdicts.specs.Parts.{HasParts}
use Rattle.ti_verdicts.proofs.Parts.{parts_next}

-- an item of a list doesn't depend on what stands for one that isn't there
same_item : {X : Type 0} (xs : List X) (n : ℕ) (x y : X) → n < length xs → get_or xs n x ≡ get_or xs n y
same_item [] n x y l = absurd (omega (arith, l))
same_item (first ∷ xs) zero x y l = refl
same_item (first ∷ xs) (suc n) x y l = same_item xs n x y (omega (arith, l))

pub name_next : (names : List (Bor (List ℕ))) (n : ℕ) (none : Bor (List ℕ)) (texts more : List (String Global)) (text : String Global) → n < length names
    → more ≡ texts ++ text ∷ [] → HasParts IsNameText (take n names) texts → IsShownAs (get_or names n none).now (string_bytes text)
    → HasParts IsNameText (take (n + 1) names) more
name_next names n none texts more text l e h shown =
    parts_next IsNameText names n (get_or names n none) texts (text ∷ []) more l (same_item names n none (get_or names n none) l) e h (text, shown, refl)
