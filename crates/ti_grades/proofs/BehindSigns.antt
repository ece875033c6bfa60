-- The codes of a string, from its first byte on.
use Rattle.std.proofs.Common.{◌≡◌, ◌-◌, ◌<◌, ◌≤◌, ◌==◌, ◌&&◌, ℕ, Bool, List, [], ◌∷◌, length, get_or, take, drop, true, false, refl, sym, ap, ◌∙◌, arith}
use Rattle.std.proofs.lemmas.List.{take_rest}
use Rattle.std.specs.List.{list_any}
use Rattle.std.specs.Prelude.{if◌then◌else◌, ◌||◌}
use Rattle.ti_grades.specs.Codes.{behind_signs, has_code, shows}
use Rattle.ti_grades.specs.declared.codes.CodeKind.{CodeKind}

abbrev any_code : CodeKind → List (List ℕ) → Bool
any_code kind texts = list_any (shows kind) texts

-- the codes of a text that begins with a byte, by whether it is `%`
by_sign : (kind : CodeKind) (so : Bool) (c : ℕ) (rest : List ℕ) → (so && shows kind (c ∷ rest)) ≡ false
    → any_code kind (if so then (c ∷ rest) ∷ behind_signs rest else behind_signs (c ∷ rest)) ≡ any_code kind (behind_signs (if so then rest else c ∷ rest))
by_sign kind true c rest e = ap (λ (shown : Bool). shown || any_code kind (behind_signs rest)) e
by_sign kind false c rest e = refl

no_rest : (so : Bool) (kind : CodeKind) → false ≡ any_code kind (behind_signs (if so then [] else []))
no_rest true kind = refl
no_rest false kind = refl

skipped : (kind : CodeKind) (b : ℕ) (rest : List ℕ) → ((b == 37) && shows kind rest) ≡ false
    → has_code kind (b ∷ rest) ≡ has_code kind (if b == 37 then drop 1 rest else rest)
unfolding has_code
skipped kind b [] e = no_rest (b == 37) kind
skipped kind b (c ∷ rest) e = by_sign kind (b == 37) c rest e

shown : (kind : CodeKind) (b : ℕ) (rest : List ℕ) → ((b == 37) && shows kind rest) ≡ true → has_code kind (b ∷ rest) ≡ true
unfolding has_code
shown kind b [] e = absurd (nothing (b == 37) e)
  where
    nothing : (so : Bool) → (so && shows kind []) ≡ true → ⊥
    nothing true h = cc
    nothing false h = cc
shown kind b (c ∷ rest) e = by (b == 37) e
  where
    by : (so : Bool) → (so && shows kind (c ∷ rest)) ≡ true
        → any_code kind (if so then (c ∷ rest) ∷ behind_signs rest else behind_signs (c ∷ rest)) ≡ true
    by true h = ap (λ (it : Bool). it || any_code kind (behind_signs rest)) h
    by false h = absurd cc

-- ---- as the loop has them

pub no_code : (kind : CodeKind) (text : List ℕ) (whole : Bool) → length text < 1 → has_code kind text ≡ whole → false ≡ whole
unfolding has_code
no_code kind [] whole l w = w
no_code kind (b ∷ rest) whole l w = absurd (omega (arith, l))

pub next_code : (kind : CodeKind) (text next : List ℕ) (whole : Bool) → 1 ≤ length text
    → ((get_or text 0 0 == 37) && shows kind (take (length text - 1) (drop 1 text))) ≡ false
    → next ≡ (if get_or text 0 0 == 37 then drop 1 (take (length text - 1) (drop 1 text)) else take (length text - 1) (drop 1 text))
    → has_code kind text ≡ whole → has_code kind next ≡ whole
next_code kind [] next whole l e n w = absurd (omega (arith, l))
next_code kind (b ∷ rest) next whole l e n w =
    let t : take (length (b ∷ rest) - 1) rest ≡ rest = take_rest (b ∷ rest) 1 in
    let f : ((b == 37) && shows kind rest) ≡ false = ap (λ (xs : List ℕ). (b == 37) && shows kind xs) (sym t) ∙ e in
    let m : next ≡ (if b == 37 then drop 1 rest else rest) = n ∙ ap (λ (xs : List ℕ). if b == 37 then drop 1 xs else xs) t in
    ap (λ (xs : List ℕ). has_code kind xs) m ∙ (sym (skipped kind b rest f) ∙ w)

pub shown_code : (kind : CodeKind) (text : List ℕ) (whole : Bool) → 1 ≤ length text
    → ((get_or text 0 0 == 37) && shows kind (take (length text - 1) (drop 1 text))) ≡ true
    → has_code kind text ≡ whole → true ≡ whole
shown_code kind [] whole l e w = absurd (omega (arith, l))
shown_code kind (b ∷ rest) whole l e w =
    let t : take (length (b ∷ rest) - 1) rest ≡ rest = take_rest (b ∷ rest) 1 in
    let f : ((b == 37) && shows kind rest) ≡ true = ap (λ (xs : List ℕ). (b == 37) && shows kind xs) (sym t) ∙ e in
    sym (shown kind b rest f) ∙ w
