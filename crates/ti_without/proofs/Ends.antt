-- What the rounds lead to, and what comes back.
use Rattle.std.proofs.Common.{◌≡◌, ◌<◌, ◌≤◌, ◌||◌, ℕ, zero, suc, Bool, true, false, cond, not, List, [], ◌∷◌, length, get_or, filter, All, Contains, refl, sym, subst, ap, ◌∙◌, arith}
use Rattle.std.proofs.lemmas.Bool.{false≢true}
use Rattle.std.proofs.lemmas.List.Elements.{All-contains, All-contains_itself, All-filter, All-weaker}
use Rattle.ti_caps.specs.Entry.{Content}
use Rattle.ti_checker.specs.No as nos
use Rattle.ti_checker.specs.declared.causes.Cause.TheVariants.{NoMemory}
use Rattle.ti_checker.specs.declared.causes.No.{No}
use Rattle.ti_faults.specs.AllFaults.{AreFaults}
use Rattle.ti_without.specs.Going.{IsFurther, LeavesAll}
use Rattle.ti_without.specs.Less.{but, caps_of, comes_with, both, colors, alternate, goes_with, less}
use Rattle.ti_without.specs.Rounds.{AreRounds, IsRound, NoRound, OneMore, can_go_on}
use Rattle.ti_without.specs.Without.{IsCertified, IsEnd, IsFound, OutOfMemory}
use Rattle.ti_without.specs.declared.left_out.LeftOut.{LeftOut}
use Rattle.ti_without.specs.declared.rounds.Smaller.{Smaller}
use Rattle.ti_without.specs.declared.without.Without.{Without}
use Rattle.ti_without.proofs.Leaves.{further, itself, or_left}
use Rattle.ti_without.proofs.Less.{less_both}

-- ---- rounds

pub memory_end : (entry : Content) (rows cols : ℕ) (refusal : No) → refusal.cause ≡ NoMemory → IsEnd entry rows cols refusal
memory_end entry rows cols refusal e = record {
  left = [];
  rounds = NoRound [] refl;
  stop = record { refused = nos.OutOfMemory e; last = OutOfMemory e };
}

pub further_is : (entry : Content) (rows cols : ℕ) (s t : Smaller) → s.entry ≡ less entry (caps_of s.left.items) → IsFurther rows cols s t → t.entry ≡ less entry (caps_of t.left.items)
further_is entry rows cols s t e f =
    f.entry_is ∙ ap (λ (x : Content). less x (caps_of f.gone)) e ∙ sym (less_both entry s.left.items f.gone) ∙ ap (λ (l : List LeftOut). less entry (caps_of l)) (sym f.left_is)

pub further_rounds : (entry : Content) (rows cols : ℕ) (s t : Smaller) → s.entry ≡ less entry (caps_of s.left.items) → AreRounds entry rows cols s.left.items → IsFurther rows cols s t → AreRounds entry rows cols t.left.items
further_rounds entry rows cols s t e r f = OneMore s.left.items f.gone t.left.items f.left_is r (subst (λ (x : Content). IsRound x rows cols f.gone) e f.round)

-- ---- the first round, for an entry whose faults are known

pub whole_is : (entry : Content) (s : Smaller) → s.entry ≡ entry → s.left.items ≡ [] → s.entry ≡ less entry (caps_of s.left.items)
whole_is entry s e l = e ∙ ap (λ (left : List LeftOut). less entry (caps_of left)) (sym l)

first_further : (entry : Content) (rows cols : ℕ) (s t : Smaller) (nos : List No) → s.entry ≡ entry → AreFaults entry rows cols nos → can_go_on entry nos ≡ true → LeavesAll s nos t → IsFurther rows cols s t
first_further entry rows cols s t nos e faults can a =
    further s t rows cols nos (subst (λ (x : Content). AreFaults x rows cols nos) (sym e) faults) (subst (λ (x : Content). can_go_on x nos ≡ true) (sym e) can) a

pub first_is : (entry : Content) (rows cols : ℕ) (s t : Smaller) (nos : List No) → s.entry ≡ entry → s.left.items ≡ [] → AreFaults entry rows cols nos → can_go_on entry nos ≡ true → LeavesAll s nos t → t.entry ≡ less entry (caps_of t.left.items)
first_is entry rows cols s t nos e l faults can a = further_is entry rows cols s t (whole_is entry s e l) (first_further entry rows cols s t nos e faults can a)

pub first_rounds : (entry : Content) (rows cols : ℕ) (s t : Smaller) (nos : List No) → s.entry ≡ entry → s.left.items ≡ [] → AreFaults entry rows cols nos → can_go_on entry nos ≡ true → LeavesAll s nos t → AreRounds entry rows cols t.left.items
first_rounds entry rows cols s t nos e l faults can a = further_rounds entry rows cols s t (whole_is entry s e l) (NoRound s.left.items l) (first_further entry rows cols s t nos e faults can a)

pub found_by : (entry smaller : Content) (rows cols : ℕ) (w : Without) → smaller ≡ less entry (caps_of w.left_out.items) → AreRounds entry rows cols w.left_out.items → IsCertified smaller rows cols w.checked → IsFound entry rows cols w
found_by entry smaller rows cols w e r c = record {
  certified = subst (λ (x : Content). IsCertified x rows cols w.checked) e c;
  rounds = w.left_out.items;
  are_rounds = r;
  left = All-contains_itself w.left_out.items;
}

-- ---- what comes back

pub part_of : (cap : ℕ) (left : List LeftOut) → All (Contains left) (but cap left)
part_of cap left = All-filter (λ (l : LeftOut). not (comes_with cap l.cap)) (Contains left) left (All-contains_itself left)

kept_more : (b : Bool) (x : LeftOut) (kept : List LeftOut) (n : ℕ) → length kept ≤ n → length (cond b (x ∷ kept) kept) ≤ suc n
kept_more true x kept n h = omega (arith, h)
kept_more false x kept n h = omega (arith, h)

kept_less : (b : Bool) (x : LeftOut) (kept : List LeftOut) (n : ℕ) → length kept < n → length (cond b (x ∷ kept) kept) < suc n
kept_less true x kept n h = omega (arith, h)
kept_less false x kept n h = omega (arith, h)

dropped : (b : Bool) (x : LeftOut) (kept : List LeftOut) (n : ℕ) → b ≡ false → length kept ≤ n → length (cond b (x ∷ kept) kept) < suc n
dropped true x kept n e h = absurd (false≢true (sym e))
dropped false x kept n e h = omega (arith, h)

no_longer : (p : LeftOut → Bool) (xs : List LeftOut) → length (filter p xs) ≤ length xs
no_longer p [] = omega arith
no_longer p (x ∷ xs) = kept_more (p x) x (filter p xs) (length xs) (no_longer p xs)

shorter : (p : LeftOut → Bool) (xs : List LeftOut) (i : ℕ) (d : LeftOut) → i < length xs → p (get_or xs i d) ≡ false → length (filter p xs) < length xs
shorter p [] i d lt h = absurd (omega (arith, lt))
shorter p (x ∷ xs) zero d lt h = dropped (p x) x (filter p xs) (length xs) h (no_longer p xs)
shorter p (x ∷ xs) (suc i) d lt h = kept_less (p x) x (filter p xs) (length xs) (shorter p xs i d (omega (arith, lt)) h)

comes_itself : (cap : ℕ) → comes_with cap cap ≡ true
comes_itself cap = or_left ((goes_with cap cap || both colors cap cap) || both alternate cap cap) _ (or_left (goes_with cap cap || both colors cap cap) _ (or_left (goes_with cap cap) _ (itself cap)))

pub but_shorter : (left : List LeftOut) (i : ℕ) (one : LeftOut) → i < length left → get_or left i one ≡ one → length (but one.cap left) < length left
but_shorter left i one lt is =
    shorter (λ (l : LeftOut). not (comes_with one.cap l.cap)) left i one lt (ap (λ (l : LeftOut). not (comes_with one.cap l.cap)) is ∙ ap not (comes_itself one.cap))

pub found_again : (entry : Content) (rows cols : ℕ) (w v : Without) → IsFound entry rows cols w → IsCertified (less entry (caps_of v.left_out.items)) rows cols v.checked → All (Contains w.left_out.items) v.left_out.items → IsFound entry rows cols v
found_again entry rows cols w v f c part = record {
  certified = c;
  rounds = f.rounds;
  are_rounds = f.are_rounds;
  left = All-weaker (Contains w.left_out.items) (Contains f.rounds) (λ l h. All-contains (Contains f.rounds) w.left_out.items l f.left h) v.left_out.items part;
}
