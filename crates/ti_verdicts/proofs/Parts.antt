-- One more part, and the line of an entry.
use Rattle.std.proofs.Common.{◌≡◌, ◌<◌, ℕ, ◌+◌, List, [], ◌∷◌, ◌++◌, length, take, get_or, refl, sym, ap, subst, ◌∙◌, append_assoc}
use Rattle.std.proofs.lemmas.List.{append-nil, take_more}
use Rattle.ti_verdicts.specs.Parts.{HasParts}

-- ---- parts

pub no_parts : {X Y : Type 0} (P : X → List Y → Type 0) → HasParts P [] []
unfolding HasParts
no_parts P = refl

parts_end : {X Y : Type 0} (P : X → List Y → Type 0) (xs : List X) (x : X) (text own : List Y) → HasParts P xs text → P x own → HasParts P (xs ++ x ∷ []) (text ++ own)
unfolding HasParts
parts_end {X} {Y} P [] x text own h p = (own, [], ap (λ (t : List Y). t ++ own) h ∙ sym (append-nil own), p, refl)
parts_end {X} {Y} P (first ∷ xs) x text own h p =
    (h.0, h.1 ++ own, ap (λ (t : List Y). t ++ own) h.2 ∙ append_assoc h.0 h.1 own, h.3, parts_end P xs x h.1 own h.4 p)

-- one more part, of the next item of a list
pub parts_next : {X Y : Type 0} (P : X → List Y → Type 0) (xs : List X) (n : ℕ) (x : X) (text own more : List Y) → n < length xs → x ≡ get_or xs n x → more ≡ text ++ own → HasParts P (take n xs) text → P x own → HasParts P (take (n + 1) xs) more
parts_next {X} {Y} P xs n x text own more l is spelled h p =
    subst (λ (items : List _). HasParts P items more) (sym (take_more xs n x l))
    (subst (λ (t : List Y). HasParts P (take n xs ++ get_or xs n x ∷ []) t) (sym spelled) (parts_end P (take n xs) (get_or xs n x) text own h (subst (λ (y : _). P y own) is p)))

-- ---- a text that was written part by part

pub five_parts : (a b c d e start first second third fourth : List ℕ) → start ≡ a → first ≡ start ++ b → second ≡ first ++ c → third ≡ second ++ d → fourth ≡ third ++ e → fourth ≡ a ++ (b ++ (c ++ (d ++ e)))
five_parts a b c d e start first second third fourth p q r s t =
    t
    ∙ (ap (λ (x : List ℕ). x ++ e) s
    ∙ (append_assoc second d e
    ∙ (ap (λ (x : List ℕ). x ++ (d ++ e)) r
    ∙ (append_assoc first c (d ++ e)
    ∙ (ap (λ (x : List ℕ). x ++ (c ++ (d ++ e))) q ∙ (append_assoc start b (c ++ (d ++ e)) ∙ ap (λ (x : List ℕ). x ++ (b ++ (c ++ (d ++ e)))) p))))))
