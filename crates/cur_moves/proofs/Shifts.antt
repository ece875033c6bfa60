-- A scroll line by line, and its effect on a place.
use Rattle.std.proofs.Common.{◌≡◌, ℕ, ◌+◌, ◌*◌, ◌≤◌, Bool, true, false, if◌then◌else◌, zero, suc, refl, arith}
use Rattle.std.proofs.lemmas.Bool.Decides.{nat_tests}
use Rattle.vt_term.specs.Look.{Look}
use Rattle.ti_rows.specs.declared.rows.Looks.{Looks}
use Rattle.cur_steps.specs.Inks.{look_of}
use Rattle.cur_steps.specs.declared.inks.Ink.{Ink}
use Rattle.cur_moves.specs.Scrolls.{shifted}

-- a scroll by no line changes nothing
pub shifted_none : (top bottom : ℕ) (up : Bool) (g : ℕ → ℕ → Ink) (i j : ℕ) → g i j ≡ shifted (record { top = top; bottom = bottom; count = 0; up = up }) g i j
shifted_none top bottom true g i j = grind (arith, nat_tests)
shifted_none top bottom false g i j = grind (arith, nat_tests)

-- a scroll by n lines, and then by one, is a scroll by n + 1
pub shifted_next : (top bottom n : ℕ) (up : Bool) (g : ℕ → ℕ → Ink) (i j : ℕ)
    → shifted (record { top = top; bottom = bottom; count = 1; up = up }) (shifted (record { top = top; bottom = bottom; count = n; up = up }) g) i j
    ≡ shifted (record { top = top; bottom = bottom; count = n + 1; up = up }) g i j
shifted_next top bottom n true g i j = grind (arith, nat_tests)
shifted_next top bottom n false g i j = grind (arith, nat_tests)

-- a place of a grid that was scrolled
pub choice : (l : Looks) (p q : Bool) (a b c : Look) (x y z : Ink) → (p ≡ true → q ≡ true → a ≡ look_of l x) → b ≡ look_of l y → c ≡ look_of l z
    → (if p then (if q then a else b) else c) ≡ look_of l (if p then (if q then x else y) else z)
choice l true true a b c x y z e f h = e refl refl
choice l true false a b c x y z e f h = f
choice l false q a b c x y z e f h = h

pub times_grows : (a b l : ℕ) → a ≤ b → a * l ≤ b * l
times_grows zero b l le = omega arith
times_grows (suc a) zero l le = absurd (omega arith)
times_grows (suc a) (suc b) l le = let h : a * l ≤ b * l = times_grows a b l (omega (arith, le)) in omega (arith, h)
