-- One more part of a list.
use Rattle.std.proofs.Common.{◌≡◌, ◌<◌, ℕ, ◌+◌, List, Option, [], ◌∷◌, ◌++◌, length, take, get_or, refl, sym, ap, subst, ◌∙◌, append_assoc}
use Rattle.std.proofs.lemmas.List.{append-nil, take_more}
use Rattle.ti_advice.specs.Parts.{HasParts, IsAtMost, optional}

parts_end : {X Y : Type 0} (P : X → List Y → Type 0) (xs : List X) (x : X) (text own : List Y) → HasParts P xs text → P x own → HasParts P (xs ++ x ∷ []) (text ++ own)
unfolding HasParts
parts_end {X} {Y} P [] x text own h p = (own, [], ap (λ (t : List Y). t ++ own) h ∙ sym (append-nil own), p, refl)
parts_end {X} {Y} P (first ∷ xs) x text own h p =
    (h.0, h.1 ++ own, ap (λ (t : List Y). t ++ own) h.2 ∙ append_assoc h.0 h.1 own, h.3, parts_end P xs x h.1 own h.4 p)

-- one more part, of the next item of a list: what was found of it
pub found_next : {X Y : Type 0} (P : X → Option Y → Type 0) (xs : List X) (n : ℕ) (d : X) (found : Option Y) (text more : List Y) → n < length xs → more ≡ text ++ optional found → HasParts (IsAtMost P) (take n xs) text → P (get_or xs n d) found
    → HasParts (IsAtMost P) (take (n + 1) xs) more
found_next {X} {Y} P xs n d found text more l spelled h p =
    let own : IsAtMost P (get_or xs n d) (optional found) = record { found = found; is = refl; judged = p } in
    subst (λ (items : List _). HasParts (IsAtMost P) items more) (sym (take_more xs n d l))
    (subst (λ (t : List Y). HasParts (IsAtMost P) (take n xs ++ get_or xs n d ∷ []) t) (sym spelled) (parts_end (IsAtMost P) (take n xs) (get_or xs n d) text (optional found) h own))
