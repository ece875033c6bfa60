-- Cells erased twice.
use Rattle.std.proofs.Common.{◌≡◌, ℕ, ◌+◌, ◌<◌, ◌≤◌, ◌&&◌, ◌==◌, nat_le, nat_lt, Bool, true, false, min, if◌then◌else◌, List, [], ◌∷◌, length, refl, ap, ◌∙◌, arith, suc}
use Rattle.std.proofs.lemmas.Bool.Decides.{nat_tests}
use Rattle.vt_term.specs.Look.{Look}
use Rattle.vt_term.specs.Grid.{Grid, line_at, line_drawn, drawn_from, drawn}
use Rattle.vt_effects.specs.declared.effects.Erasure.{Erasure}
use Rattle.vt_effects.specs.declared.effects.Erasure.TheVariants as erasures
use Rattle.vt_effects.specs.declared.effects.Scroll.{Scroll}
use Rattle.vt_effects.specs.declared.effects.Scroll.TheVariants as scrolls
use Rattle.vt_effects.specs.Effect.{blanked, erased, scrolled}

-- a line is drawn over: the last drawing doesn't depend on the cells before it
line_over : (f g h : ℕ → Look → Look) (j : ℕ) (xs : List Look) → ((k : ℕ) (x : Look) → f k (g k x) ≡ h k x) → line_drawn f j (line_drawn g j xs) ≡ line_drawn h j xs
line_over f g h j [] e = refl
line_over f g h j (x ∷ xs) e = ap (λ (y : Look). y ∷ line_drawn f (j + 1) (line_drawn g (j + 1) xs)) (e j x) ∙ ap (λ (l : List Look). h j x ∷ l) (line_over f g h (j + 1) xs e)

lines_over : (f g h : ℕ → ℕ → Look → Look) (i : ℕ) (ls : Grid) → ((k j : ℕ) (x : Look) → f k j (g k j x) ≡ h k j x) → drawn_from f i (drawn_from g i ls) ≡ drawn_from h i ls
lines_over f g h i [] e = refl
lines_over f g h i (l ∷ ls) e = ap (λ (y : List Look). y ∷ drawn_from f (i + 1) (drawn_from g (i + 1) ls)) (line_over (f i) (g i) (h i) 0 l (e i)) ∙ ap (λ (m : Grid). line_drawn (h i) 0 l ∷ m) (lines_over f g h (i + 1) ls e)

-- drawing twice is drawing once
pub drawn_over : (f g h : ℕ → ℕ → Look → Look) (ls : Grid) → ((k j : ℕ) (x : Look) → f k j (g k j x) ≡ h k j x) → drawn f (drawn g ls) ≡ drawn h ls
drawn_over f g h ls e = lines_over f g h 0 ls e

same_either : (b : Bool) (x : Look) → (if b then x else x) ≡ x
same_either true x = refl
same_either false x = refl

-- erasing everything twice is erasing it once
pub blanked_again : (chosen : ℕ → ℕ → Bool) (x : Look) (g : Grid) → blanked chosen x (blanked (λ i j. true) x g) ≡ blanked (λ i j. true) x g
blanked_again chosen x g = drawn_over (λ i j old. if chosen i j then x else old) (λ i j old. x) (λ i j old. x) g (λ k j y. same_either (chosen k j) x)

-- erasing everything hides an earlier erasure
pub erased_before : (e : Erasure) (row col : ℕ) (x : Look) (g : Grid) → blanked (λ i j. true) x (erased e row col x g) ≡ blanked (λ i j. true) x g
erased_before erasures.Nothing row col x g = refl
erased_before erasures.Screen row col x g = drawn_over (λ i j old. x) _ (λ i j old. x) g (λ k j y. refl)
erased_before erasures.Tail row col x g = drawn_over (λ i j old. x) _ (λ i j old. x) g (λ k j y. refl)
erased_before erasures.Head row col x g = drawn_over (λ i j old. x) _ (λ i j old. x) g (λ k j y. refl)
erased_before erasures.Rest row col x g = drawn_over (λ i j old. x) _ (λ i j old. x) g (λ k j y. refl)
erased_before (erasures.Next n) row col x g = drawn_over (λ i j old. x) _ (λ i j old. x) g (λ k j y. refl)

-- erasing everything hides an earlier scroll
pub scrolled_before : (e : Scroll) (top bottom : ℕ) (x : Look) (g : Grid) → blanked (λ i j. true) x (scrolled e top bottom x g) ≡ blanked (λ i j. true) x g
scrolled_before scrolls.Still top bottom x g = refl
scrolled_before scrolls.Up top bottom x g = drawn_over (λ i j old. x) _ (λ i j old. x) g (λ k j y. refl)
scrolled_before scrolls.Down top bottom x g = drawn_over (λ i j old. x) _ (λ i j old. x) g (λ k j y. refl)

-- two drawings are equal if they agree within the line's length
line_agrees : (f g : ℕ → Look → Look) (j : ℕ) (xs : List Look) (n : ℕ) → j + length xs ≤ n → ((k : ℕ) (x : Look) → k < n → f k x ≡ g k x) → line_drawn f j xs ≡ line_drawn g j xs
line_agrees f g j [] n h e = refl
line_agrees f g j (x ∷ xs) n h e = ap (λ (y : Look). y ∷ line_drawn f (j + 1) xs) (e j x (omega arith)) ∙ ap (λ (l : List Look). g j x ∷ l) (line_agrees f g (j + 1) xs n (omega arith) e)

lines_agree : (f g : ℕ → ℕ → Look → Look) (i : ℕ) (ls : Grid) (n : ℕ) → ((k : ℕ) → k < length ls → length (line_at ls k) ≤ n) → ((i j : ℕ) (x : Look) → j < n → f i j x ≡ g i j x) → drawn_from f i ls ≡ drawn_from g i ls
lines_agree f g i [] n h e = refl
lines_agree f g i (l ∷ ls) n h e = ap (λ (y : List Look). y ∷ drawn_from f (i + 1) ls) (line_agrees (f i) (g i) 0 l n (omega (arith, h 0 (omega arith))) (e i))
    ∙ ap (λ (m : Grid). line_drawn (g i) 0 l ∷ m) (lines_agree f g (i + 1) ls n (λ k lt. h (suc k) (omega arith)) e)

pub drawn_agrees : (f g : ℕ → ℕ → Look → Look) (ls : Grid) (n : ℕ) → ((k : ℕ) → k < length ls → length (line_at ls k) ≤ n) → ((i j : ℕ) (x : Look) → j < n → f i j x ≡ g i j x) → drawn f ls ≡ drawn g ls
drawn_agrees f g ls n h e = lines_agree f g 0 ls n h e

next_place : (i j row col n cols : ℕ) (x old : Look) → j < cols → (if (i == row) && (nat_le col j && nat_lt j (col + n)) then x else old) ≡ (if (i == row) && (nat_le col j && nat_lt j (col + min n cols)) then x else old)
next_place i j row col n cols x old h = grind (arith, nat_tests)

-- erasing more cells than the line has erases those that it has
pub next_held : (row col n cols : ℕ) (x : Look) (g : Grid) → ((k : ℕ) → k < length g → length (line_at g k) ≤ cols)
    → blanked (λ i j. (i == row) && (nat_le col j && nat_lt j (col + n))) x g ≡ erased (erasures.Next (min n cols)) row col x g
next_held row col n cols x g h = drawn_agrees _ _ g cols h (λ i j old lt. next_place i j row col n cols x old lt)
