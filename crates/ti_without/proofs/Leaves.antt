-- A round, step by step.
use Rattle.std.proofs.Common.{◌≡◌, ◌⊎◌, inl, inr, ⊎_elim, ◌<◌, ◌+◌, ℕ, suc, Bool, true, false, ◌==◌, ◌||◌, ◌&&◌, not, List, [], ◌∷◌, ◌++◌, length, take, get_or, None, is_some, Contains, refl, sym, subst, ap, ◌∙◌, append-nil, append_assoc, eq-eqb, eqb-true, arith}
use Rattle.std.proofs.lemmas.Bool.{false≢true}
use Rattle.std.proofs.lemmas.List.{take_more}
use Rattle.std.proofs.lemmas.List.Elements.{All-nil, All-cons, All-append, All-weaker, Contains-append_left, Contains-push, Contains-push_cases}
use Rattle.std.specs.List.{list_all, list_any}
use Rattle.ti_caps.specs.Entry.{Content, string_at}
use Rattle.ti_checker.specs.declared.causes.No.{No}
use Rattle.ti_faults.specs.AllFaults.{AreFaults}
use Rattle.ti_without.specs.Going.{Had, Lacked, IsDueTo, IsFurther, LacksFor, LeavesAll, LeavesFor, LeavesOut, left_for, present}
use Rattle.ti_rows.specs.declared.rows.Row.TheVariants.{Smcup, Rmcup}
use Rattle.ti_rows.specs.Names.{cap_of}
use Rattle.ti_without.specs.Less.{both, caps_of, goes_with, is_among, less, may_go, other_screen}
use Rattle.ti_without.specs.Rounds.{can_go_on, counts, may_go_or_wait, waits, IsDue, IsWanted}
use Rattle.ti_without.specs.declared.left_out.LeftOut.{LeftOut}
use Rattle.ti_without.specs.declared.rounds.Smaller.{Smaller}
use Rattle.ti_without.proofs.Less.{fewer, had, lacks_removed, less_both, less_lacks, none_from}

-- ---- one fault

pub for_none : (s : Smaller) (fault : No) → LeavesFor s fault s
for_none s fault = record { gone = []; left_is = sym (append-nil s.left.items); entry_is = refl; due = All-nil (IsDueTo s.entry fault) }

pub for_one : (s : Smaller) (cap : ℕ) (fault : No) (t : Smaller) → counts fault ≡ true → goes_with fault.cap cap ≡ true → LeavesOut s cap fault t → LeavesFor s fault t
for_one s cap fault t c goes (Had there e l) = record {
  gone = left_for cap fault ∷ [];
  left_is = l;
  entry_is = e;
  due = All-cons (IsDueTo s.entry fault) (left_for cap fault) [] (record { there = there; counts = c; cap_is = refl; cause_is = refl; goes = goes }) (All-nil (IsDueTo s.entry fault));
}
for_one s cap fault t c goes (Lacked not_there same) = subst (λ (x : Smaller). LeavesFor s fault x) (sym same) (for_none s fault)

appended : (s t u a b : List LeftOut) → t ≡ s ++ a → u ≡ t ++ b → u ≡ s ++ (a ++ b)
appended s t u a b e f = f ∙ ap (λ (l : List LeftOut). l ++ b) e ∙ append_assoc s a b

lessened : (s t u : Content) (a b : List LeftOut) → t ≡ less s (caps_of a) → u ≡ less t (caps_of b) → u ≡ less s (caps_of (a ++ b))
lessened s t u a b e f = f ∙ ap (λ (x : Content). less x (caps_of b)) e ∙ sym (less_both s a b)

had_first : (s t : Content) (a : List LeftOut) (cap : ℕ) → t ≡ less s (caps_of a) → is_some (string_at t cap) ≡ true → is_some (string_at s cap) ≡ true
had_first s t a cap e h = had s (caps_of a) cap (subst (λ (x : Content). is_some (string_at x cap) ≡ true) e h)

pub for_then : (s t u : Smaller) (fault : No) → LeavesFor s fault t → LeavesFor t fault u → LeavesFor s fault u
for_then s t u fault a b = record {
  gone = a.gone ++ b.gone;
  left_is = appended s.left.items t.left.items u.left.items a.gone b.gone a.left_is b.left_is;
  entry_is = lessened s.entry t.entry u.entry a.gone b.gone a.entry_is b.entry_is;
  due = All-append (IsDueTo s.entry fault) a.gone b.gone a.due
      (All-weaker (IsDueTo t.entry fault) (IsDueTo s.entry fault)
      (λ l d. record { there = had_first s.entry t.entry a.gone l.cap a.entry_is d.there; counts = d.counts; cap_is = d.cap_is; cause_is = d.cause_is; goes = d.goes }) b.gone b.due);
}

-- what is left out isn't there
pub out_lacks : (s : Smaller) (cap : ℕ) (fault : No) (t : Smaller) → LeavesOut s cap fault t → string_at t.entry cap ≡ None
out_lacks s cap fault t (Had there e l) = ap (λ (x : Content). string_at x cap) e ∙ lacks_removed s.entry cap
out_lacks s cap fault t (Lacked not_there same) = ap (λ (x : Smaller). string_at x.entry cap) same ∙ none_from (string_at s.entry cap) not_there

pub still : (s t : Content) (gone : List LeftOut) (cap : ℕ) → t ≡ less s (caps_of gone) → string_at s cap ≡ None → string_at t cap ≡ None
still s t gone cap e h = ap (λ (x : Content). string_at x cap) e ∙ less_lacks s (caps_of gone) cap h

out_still : (s : Smaller) (c : ℕ) (fault : No) (t : Smaller) (q : ℕ) → LeavesOut s c fault t → string_at s.entry q ≡ None → string_at t.entry q ≡ None
out_still s c fault t q (Had there e l) h = ap (λ (x : Content). string_at x q) e ∙ less_lacks s.entry (c ∷ []) q h
out_still s c fault t q (Lacked not_there same) h = ap (λ (x : Smaller). string_at x.entry q) same ∙ h

-- ---- `smcup` and `rmcup`

or_case : (a b : Bool) → (a || b) ≡ true → (a ≡ true) ⊎ (b ≡ true)
or_case true b h = inl refl
or_case false b h = inr h

pub or_left : (a b : Bool) → a ≡ true → (a || b) ≡ true
or_left true b h = refl
or_left false b h = absurd (false≢true h)

or_right : (a b : Bool) → b ≡ true → (a || b) ≡ true
or_right true b h = refl
or_right false b h = h

and_both : (a b : Bool) → a ≡ true → b ≡ true → (a && b) ≡ true
and_both true b h k = k
and_both false b h k = absurd (false≢true h)

both_left : (a b : Bool) → (a && b) ≡ true → a ≡ true
both_left true b h = refl
both_left false b h = absurd (false≢true h)

both_right : (a b : Bool) → (a && b) ≡ true → b ≡ true
both_right true b h = h
both_right false b h = absurd (false≢true h)

same_is : (n : ℕ) → (n == n) ≡ true
same_is n = eq-eqb n n refl

pub itself : (cap : ℕ) → goes_with cap cap ≡ true
itself cap = or_left (cap == cap) (both other_screen cap cap) (same_is cap)

pair_goes : (cap other : ℕ) → is_among other_screen cap ≡ true → is_among other_screen other ≡ true → goes_with cap other ≡ true
pair_goes cap other h k = or_right (other == cap) (both other_screen cap other) (and_both (is_among other_screen cap) (is_among other_screen other) h k)

pub to_screen : (cap : ℕ) → is_among other_screen cap ≡ true → goes_with cap (cap_of Smcup) ≡ true
to_screen cap h = pair_goes cap (cap_of Smcup) h (or_left (cap_of Smcup == cap_of Smcup) _ (same_is (cap_of Smcup)))

pub from_screen : (cap : ℕ) → is_among other_screen cap ≡ true → goes_with cap (cap_of Rmcup) ≡ true
from_screen cap h = pair_goes cap (cap_of Rmcup) h (or_right (cap_of Smcup == cap_of Rmcup) _ (or_left (cap_of Rmcup == cap_of Rmcup) false (same_is (cap_of Rmcup))))

-- both are left out
pub pair_out : (s t u : Smaller) (fault : No) → LeavesOut s (cap_of Smcup) fault t → LeavesOut t (cap_of Rmcup) fault u → (cap : ℕ) → both other_screen fault.cap cap ≡ true → string_at u.entry cap ≡ None
pair_out s t u fault a b cap h = by_case (or_case (cap_of Smcup == cap) ((cap_of Rmcup == cap) || false) (both_right (is_among other_screen fault.cap) (is_among other_screen cap) h))
  where
    by_case : ((cap_of Smcup == cap) ≡ true) ⊎ (((cap_of Rmcup == cap) || false) ≡ true) → string_at u.entry cap ≡ None
    by_case (inl e) = subst (λ (x : ℕ). string_at u.entry x ≡ None) (eqb-true (cap_of Smcup) cap e) (out_still t (cap_of Rmcup) fault u (cap_of Smcup) b (out_lacks s (cap_of Smcup) fault t a))
    by_case (inr e) = ⊎_elim
        (λ f. subst (λ (x : ℕ). string_at u.entry x ≡ None) (eqb-true (cap_of Rmcup) cap f) (out_lacks t (cap_of Rmcup) fault u b))
        (λ f. absurd (false≢true f))
        (or_case (cap_of Rmcup == cap) false e)

pub fault_out : (s t u : Smaller) (fault : No) → LeavesOut s fault.cap fault t → LeavesFor t fault u → ((cap : ℕ) → both other_screen fault.cap cap ≡ true → string_at u.entry cap ≡ None) → LacksFor fault u
fault_out s t u fault a b pair cap c goes = ⊎_elim
    (λ e. subst (λ (x : ℕ). string_at u.entry x ≡ None) (sym (eqb-true cap fault.cap e)) (still t.entry u.entry b.gone fault.cap b.entry_is (out_lacks s fault.cap fault t a)))
    (λ e. pair cap e)
    (or_case (cap == fault.cap) (both other_screen fault.cap cap) goes)

-- ---- all faults

pub all_none : (s : Smaller) → LeavesAll s [] s
all_none s = record {
  gone = [];
  left_is = sym (append-nil s.left.items);
  entry_is = refl;
  due = All-nil (IsDue s.entry []);
  all = λ cap w. absurd (omega (arith, w.listed.1));
}

all_more : (s : Smaller) (nos : List No) (fault : No) (t u : Smaller) → LeavesAll s nos t → LeavesFor t fault u → LacksFor fault u → LeavesAll s (nos ++ fault ∷ []) u
all_more s nos fault t u a b lacks = record {
  gone = a.gone ++ b.gone;
  left_is = appended s.left.items t.left.items u.left.items a.gone b.gone a.left_is b.left_is;
  entry_is = lessened s.entry t.entry u.entry a.gone b.gone a.entry_is b.entry_is;
  due = All-append (IsDue s.entry (nos ++ fault ∷ [])) a.gone b.gone
      (All-weaker (IsDue s.entry nos) (IsDue s.entry (nos ++ fault ∷ []))
      (λ l d. record { there = d.there; fault = d.fault; listed = Contains-append_left nos (fault ∷ []) d.fault d.listed; counts = d.counts; cap_is = d.cap_is; cause_is = d.cause_is; goes = d.goes }) a.gone a.due)
      (All-weaker (IsDueTo t.entry fault) (IsDue s.entry (nos ++ fault ∷ []))
      (λ l d. record { there = had_first s.entry t.entry a.gone l.cap a.entry_is d.there; fault = fault; listed = Contains-push nos fault; counts = d.counts; cap_is = d.cap_is; cause_is = d.cause_is; goes = d.goes }) b.gone b.due);
  all = λ cap w. by_case cap w (Contains-push_cases nos fault w.fault w.listed);
}
  where
    by_case : (cap : ℕ) (w : IsWanted (nos ++ fault ∷ []) cap) → Contains nos w.fault ⊎ (fault ≡ w.fault) → string_at u.entry cap ≡ None
    by_case cap w (inl listed) = still t.entry u.entry b.gone cap b.entry_is (a.all cap (record { fault = w.fault; listed = listed; counts = w.counts; goes = w.goes }))
    by_case cap w (inr same) = lacks cap (subst (λ (x : No). counts x ≡ true) (sym same) w.counts) (subst (λ (x : No). goes_with x.cap cap ≡ true) (sym same) w.goes)

pub all_next : (s : Smaller) (nos : List No) (i : ℕ) (fault : No) (t u : Smaller) → i < length nos → get_or nos i fault ≡ fault → LeavesAll s (take i nos) t → LeavesFor t fault u → LacksFor fault u → LeavesAll s (take (i + 1) nos) u
all_next s nos i fault t u lt is a b lacks =
    let e : take (i + 1) nos ≡ take i nos ++ fault ∷ [] = take_more nos i fault lt ∙ ap (λ (x : No). take i nos ++ x ∷ []) is in
    subst (λ (l : List No). LeavesAll s l u) (sym e) (all_more s (take i nos) fault t u a b lacks)

-- ---- a round

pub further : (s t : Smaller) (rows cols : ℕ) (nos : List No) → AreFaults s.entry rows cols nos → can_go_on s.entry nos ≡ true → LeavesAll s nos t → IsFurther rows cols s t
further s t rows cols nos faults can a = record {
  gone = a.gone;
  round = record {
    nos = nos;
    faults = faults;
    can = can;
    due = a.due;
    all = λ cap w. ap (λ (x : Content). string_at x cap) (sym a.entry_is) ∙ a.all cap w;
  };
  left_is = a.left_is;
  entry_is = a.entry_is;
}

later : (fault : No) (nos : List No) (x : No) → Contains nos x → Contains (fault ∷ nos) x
later fault nos x h = (suc h.0, omega (arith, h.1), h.2)

-- a listed fault whose string is there
abbrev Goes : Content → List No → Type 0
Goes entry nos = (fault : No) × Contains nos fault × (counts fault ≡ true) × (is_some (string_at entry fault.cap) ≡ true)

goes_there : (w : Bool) (entry : Content) (cap : ℕ) → not w ≡ true → (w || may_go entry cap) ≡ true → is_some (string_at entry cap) ≡ true
goes_there true entry cap h k = absurd (false≢true h)
goes_there false entry cap h k = both_left _ _ k

some_by : (entry : Content) (fault : No) (nos : List No) → list_any counts (fault ∷ nos) ≡ true → may_go_or_wait entry fault ≡ true → (list_any counts nos ≡ true → Goes entry nos) → (b : Bool) → counts fault ≡ b → Goes entry (fault ∷ nos)
some_by entry fault nos h k rest true e = (fault, (0, omega arith, refl), e, goes_there (waits fault.cause) entry fault.cap e k)
some_by entry fault nos h k rest false e =
    let g = rest (ap (λ (b : Bool). b || list_any counts nos) (sym e) ∙ h) in (g.0, later fault nos g.0 g.1, g.2, g.3)

some_goes : (entry : Content) (nos : List No) → list_any counts nos ≡ true → list_all (may_go_or_wait entry) nos ≡ true → Goes entry nos
some_goes entry [] h k = absurd (false≢true h)
some_goes entry (fault ∷ nos) h k =
    some_by entry fault nos h (both_left (may_go_or_wait entry fault) (list_all (may_go_or_wait entry) nos) k)
    (λ more. some_goes entry nos more (both_right (may_go_or_wait entry fault) (list_all (may_go_or_wait entry) nos) k)) (counts fault) refl

pub fewer_left : (s t : Smaller) (nos : List No) → can_go_on s.entry nos ≡ true → LeavesAll s nos t → present t.entry < present s.entry
fewer_left s t nos can a =
    let g = some_goes s.entry nos (both_left (list_any counts nos) _ can) (both_right (list_any counts nos) _ can) in
    let none = a.all g.0.cap (record { fault = g.0; listed = g.1; counts = g.2; goes = itself g.0.cap }) in
    subst (λ (x : Content). present x < present s.entry) (sym a.entry_is) (fewer s.entry (caps_of a.gone) g.0.cap g.3 (ap (λ (x : Content). string_at x g.0.cap) (sym a.entry_is) ∙ none))
