-- Drawing keeps the character sets, autowrap and insertion.
use Rattle.std.proofs.Common.{◌≡◌, ℕ, ◌+◌, ◌-◌, ◌==◌, nat_lt, min, Bool, true, false, if◌then◌else◌, refl, ◌∙◌}
use Rattle.std.proofs.lemmas.Bool.{false≢true}
use Rattle.vt_term.specs.Screen.{Screen, Charset}
use Rattle.vt_term.specs.Step.{act, line_feed, printed, wrapped, opened, in_region}
use Rattle.vt_term.specs.Function.{Function, ToEnd, FromStart, Whole, Print, LineFeed, ShiftOut, ShiftIn, ReverseIndex, NextLine, EraseLine, EraseDisplay, InsertLines, DeleteLines, Margins, Designate, Modes}

pub record Kept : Type 0 where
  pub charset : Charset
  pub autowrap : Bool
  pub inserting : Bool

abbrev pub kept_of : Screen → Kept
kept_of s = record { charset = s.charset; autowrap = s.autowrap; inserting = s.inserting }

-- a property that two screens share holds of either
pub either_same : {A : Type 0} (p : Screen → A) (b : Bool) (a : A) (x y : Screen) → p x ≡ a → p y ≡ a → p (if b then x else y) ≡ a
either_same p true a x y h k = h
either_same p false a x y h k = k

either_kept : (b : Bool) (k : Kept) (x y : Screen) → kept_of x ≡ k → kept_of y ≡ k → kept_of (if b then x else y) ≡ k
either_kept b k x y h i = either_same kept_of b k x y h i

fed_kept : (s : Screen) → kept_of (line_feed s) ≡ kept_of s
fed_kept s = either_kept (s.row == s.bottom) (kept_of s) _ _ refl (either_kept (nat_lt (s.row + 1) s.rows) (kept_of s) _ _ refl refl)

printed_kept : (b : ℕ) (s : Screen) → kept_of (printed b s) ≡ kept_of s
printed_kept b s = opens (wrapped s) ∙ either_kept s.pending (kept_of s) _ _ (fed_kept (record s { col = 0 })) refl
  where
    opens : (t : Screen) → kept_of (opened t) ≡ kept_of t
    opens t = either_kept t.inserting (kept_of t) _ _ refl refl

-- all functions but those that choose a set or a mode
abbrev pub draws : Function → Bool
draws ShiftOut = false
draws ShiftIn = false
draws (Designate element graphic) = false
draws (Modes kind on ns) = false
draws f = true

pub act_kept : (f : Function) (s : Screen) → draws f ≡ true → kept_of (act f s) ≡ kept_of s
act_kept ShiftOut s h = absurd (false≢true h)
act_kept ShiftIn s h = absurd (false≢true h)
act_kept (Designate element graphic) s h = absurd (false≢true h)
act_kept (Modes kind on ns) s h = absurd (false≢true h)
act_kept (Print b) s h = printed_kept b s
act_kept LineFeed s h = fed_kept s
act_kept ReverseIndex s h = either_kept (s.row == s.top) (kept_of s) _ _ refl refl
act_kept NextLine s h = fed_kept (record s { col = 0 })
act_kept (EraseLine ToEnd) s h = refl
act_kept (EraseLine FromStart) s h = refl
act_kept (EraseLine Whole) s h = refl
act_kept (EraseDisplay ToEnd) s h = refl
act_kept (EraseDisplay FromStart) s h = refl
act_kept (EraseDisplay Whole) s h = refl
act_kept (InsertLines n) s h = either_kept (in_region s) (kept_of s) _ _ refl refl
act_kept (DeleteLines n) s h = either_kept (in_region s) (kept_of s) _ _ refl refl
act_kept (Margins first last) s h = either_kept (nat_lt (first - 1) (if last == 0 then s.rows - 1 else min (last - 1) (s.rows - 1))) (kept_of s) _ _ refl refl
act_kept f s h = refl
