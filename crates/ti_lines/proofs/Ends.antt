-- Where the first line ends.
use Rattle.std.proofs.Common.{◌≡◌, ℕ, zero, suc, ◌+◌, ◌<◌, ◌≤◌, Bool, true, false, not, cond, if◌then◌else◌, List, [], ◌∷◌, ◌++◌, Option, None, Some, length, take, drop, refl, sym, ap, ◌∙◌, arith}
use Rattle.std.specs.Prelude.{nat_lt}
use Rattle.std.specs.Option.{option_map}
use Rattle.std.specs.List.{position, position_or_len}
use Rattle.std.proofs.lemmas.Bool.{ltb-true, ltb-false}
use Rattle.std.proofs.lemmas.Bool.Decides.{nat_tests}
use Rattle.ti_lines.specs.Lines.{Reading, IsNext, next_line}
use Rattle.ti_lines.specs.declared.lines.Next.TheVariants.{Line, Long}
use Rattle.ti_lines.specs.Text.{is_feed, line_end, is_long}

pub choose : {X : Type 0} (P : X → Type 0) (t : Bool) (x y : X) → (t ≡ true → P x) → (t ≡ false → P y) → P (if t then x else y)
choose P true x y f g = f refl
choose P false x y f g = g refl

-- a place in a text of `len` bytes
abbrev place : ℕ → ℕ → Option ℕ
place n len = if nat_lt n len then Some n else None

both_more : (n len : ℕ) → nat_lt (suc n) (suc len) ≡ nat_lt n len
both_more n len = grind (arith, nat_tests)

moved : (n len : ℕ) (t : Bool) → (if t then Some (suc n) else None) ≡ option_map suc (if t then Some n else None)
moved n len true = refl
moved n len false = refl

place_moved : (n len : ℕ) → place (1 + n) (suc len) ≡ option_map suc (place n len)
place_moved n len = let e : 1 + n ≡ suc n = omega arith in ap (λ m. place m (suc len)) e ∙ (ap (λ t. if t then Some (suc n) else None) (both_more n len) ∙ moved n len (nat_lt n len))

-- std counts the bytes that aren't LF
after_other : (b : ℕ) (n len : ℕ) (o : Option ℕ) (t : Bool) → place n len ≡ o → place (cond (not t) (1 + n) 0) (suc len) ≡ (if t then Some 0 else option_map suc o)
after_other b n len o true h = let e : nat_lt 0 (suc len) ≡ true = grind (arith, nat_tests) in ap (λ t. if t then Some 0 else None) e
after_other b n len o false h = place_moved n len ∙ ap (option_map suc) h

pub end_found : (text : List ℕ) → position is_feed text ≡ line_end text
end_found [] = refl
end_found (b ∷ text) = after_other b (position_or_len is_feed text) (length text) (line_end text) (is_feed b) (end_found text)

pub none_moved : (o : Option ℕ) → option_map suc o ≡ None → o ≡ None
none_moved None h = refl
none_moved (Some n) h = cc

further : (n : ℕ) (o : Option ℕ) → option_map suc (option_map (λ k. n + k) o) ≡ option_map (λ k. suc n + k) o
further n None = refl
further n (Some k) = let e : suc (n + k) ≡ suc n + k = omega arith in ap (λ (m : ℕ). Some m) e

nowhere : (o : Option ℕ) → o ≡ option_map (λ k. 0 + k) o
nowhere None = refl
nowhere (Some k) = let e : k ≡ 0 + k = omega arith in ap (λ (m : ℕ). Some m) e

step_end : (n : ℕ) (rest : Option ℕ) (front all : Option ℕ) (t : Bool) → (if t then Some 0 else option_map suc front) ≡ None → (front ≡ None → all ≡ option_map (λ k. n + k) rest)
    → (if t then Some 0 else option_map suc all) ≡ option_map (λ k. suc n + k) rest
step_end n rest front all true h deeper = cc
step_end n rest front all false h deeper = ap (option_map suc) (deeper (none_moved front h)) ∙ further n rest

-- the first LF, if none is among the first `seen` bytes
pub end_after : (seen : ℕ) (text : List ℕ) → line_end (take seen text) ≡ None → line_end text ≡ option_map (λ k. seen + k) (line_end (drop seen text))
end_after zero text h = nowhere (line_end text)
end_after (suc n) [] h = refl
end_after (suc n) (b ∷ text) h = step_end n (line_end (drop n text)) (line_end (take n text)) (line_end text) (is_feed b) h (end_after n text)

pub end_some : (seen : ℕ) (text : List ℕ) (at : ℕ) → line_end (take seen text) ≡ None → Some at ≡ line_end (drop seen text) → Some (seen + at) ≡ line_end text
end_some seen text at h e = ap (option_map (λ k. seen + k)) e ∙ sym (end_after seen text h)

pub end_none : (seen : ℕ) (text : List ℕ) → line_end (take seen text) ≡ None → None ≡ line_end (drop seen text) → None ≡ line_end text
end_none seen text h e = ap (option_map (λ k. seen + k)) e ∙ sym (end_after seen text h)

only : (t : Bool) (o p : Option ℕ) → (if t then Some 0 else option_map suc o) ≡ None → (o ≡ None → p ≡ None) → (if t then Some 0 else option_map suc p) ≡ None
only true o p h f = cc
only false o p h f = ap (option_map suc) (f (none_moved o h))

-- the first part has no LF, if the first LF follows it
pub none_before : (text more : List ℕ) → line_end text ≡ None → line_end (take (length text) (text ++ more)) ≡ None
none_before [] more h = refl
none_before (b ∷ text) more h = only (is_feed b) (line_end text) (line_end (take (length text) (text ++ more))) h (none_before text more)

-- the line's end is past the limit
long_from : (budget : ℕ) (text : List ℕ) (o : Option ℕ) (t : Bool) → (b : ℕ) → (at : ℕ) → Some at ≡ (if t then Some 0 else option_map suc o) → suc budget ≤ at → ((k : ℕ) → Some k ≡ o → budget ≤ k → is_long budget text ≡ true)
    → (if t then false else is_long budget text) ≡ true
long_from budget text o true b at e le deeper = let z : at ≡ 0 = cc in absurd (omega arith)
long_from budget text None false b at e le deeper = cc
long_from budget text (Some k) false b at e le deeper = let z : at ≡ suc k = cc in deeper k refl (omega arith)

pub long_line : (budget : ℕ) (text : List ℕ) (at : ℕ) → Some at ≡ line_end text → budget ≤ at → is_long budget text ≡ true
long_line budget [] at e le = cc
long_line zero (b ∷ text) at e le = refl
long_line (suc budget) (b ∷ text) at e le = long_from budget text (line_end text) (is_feed b) b at e le (long_line budget text)

long_on : (budget : ℕ) (text : List ℕ) (o : Option ℕ) (t : Bool) → (if t then Some 0 else option_map suc o) ≡ None → (o ≡ None → is_long budget text ≡ true) → (if t then false else is_long budget text) ≡ true
long_on budget text o true h deeper = cc
long_on budget text o false h deeper = deeper (none_moved o h)

pub long_alone : (budget : ℕ) (text : List ℕ) → line_end text ≡ None → budget < length text → is_long budget text ≡ true
long_alone budget [] h lt = absurd (omega arith)
long_alone zero (b ∷ text) h lt = refl
long_alone (suc budget) (b ∷ text) h lt = long_on budget text (line_end text) (is_feed b) h (λ e. long_alone budget text e (omega arith))

pub line_next : {R : Type 0} (left : R → List ℕ → Type 0) (r : Reading) (reader : R) (at : ℕ) → Some at ≡ line_end r.unread → IsNext left r reader (next_line at r.budget)
line_next left r reader at e =
    choose (λ n. IsNext left r reader n) (nat_lt at r.budget) (Line at) Long
    (λ t. (sym e, ltb-true at r.budget t))
    (λ f. long_line r.budget r.unread at e (ltb-false at r.budget f))

pub long_next : (r : Reading) → None ≡ line_end r.unread → r.budget < length r.unread → is_long r.budget r.unread ≡ true
long_next r e lt = long_alone r.budget r.unread (sym e) lt
