-- Characters of a line, one after another, in one piece of the wire.
use Rattle.std.proofs.Common.{◌≡◌, ℕ, ◌+◌, ◌<◌, ◌≤◌, suc, List, [], ◌∷◌, ◌++◌, length, get_or, Result, refl, sym, subst, inl, arith}
use Rattle.std.proofs.lemmas.Bool.Decides.{nat_tests}
use Rattle.vt_term.specs.Screen.{State}
use Rattle.vt_term.specs.Text.{IsOpen}
use Rattle.vt_term.proofs.Sequences.{empty_open}
use Rattle.vt_term.proofs.Runs.{runs_nothing}
use Rattle.cur_steps.specs.Wire.{Sends}
use Rattle.cur_steps.specs.Leads.{Leads}
use Rattle.vt_term.specs.Ends.{Ends}
use Rattle.cur_steps.specs.WireSteps.{Steps}
use Rattle.cur_steps.proofs.Leads.{leads_then, leads_wider}
use Rattle.cur_steps.proofs.Stops.{steps_sent}
use Rattle.cur_steps.specs.declared.inks.Ink.{Ink}
use Rattle.ti_conforms.specs.Certified.{Table, IsLost, IsChecked}
use Rattle.cur_steps.specs.Pieces.{IsPaint}
use Rattle.cur_steps.specs.Inks.{CanShow, put_at, mixed}
use Rattle.cur_steps.specs.Beliefs.{Agrees, Belief, Place, IsHere}
use Rattle.cur_steps.specs.Gaps.{IsAlike}
use Rattle.cur_steps.proofs.Actions.{agrees_lost}
use Rattle.cur_steps.proofs.Prints.{standing, print_leads}

-- one more place
mixed_put : (old new : ℕ → ℕ → Ink) (r c i j : ℕ) → put_at r c (new r c) (mixed old new r c) i j ≡ mixed old new r (c + 1) i j
mixed_put old new r c i j = grind (arith, nat_tests)

agrees_mixed : (t : Table) (old new : ℕ → ℕ → Ink) (r c : ℕ) (b : Belief) (s : State) → Agrees t (put_at r c (new r c) (mixed old new r c)) b s → Agrees t (mixed old new r (c + 1)) b s
agrees_mixed t old new r c b s a = record { ready = a.ready; cells = λ i j li lj. rw (sym (mixed_put old new r c i j)) (a.cells i j li lj); place = a.place; brush = a.brush; colored = a.colored; set = a.set; seen = a.seen }

-- new up to the column of the cursor
abbrev pub Typed : Table → (ℕ → ℕ → Ink) → (ℕ → ℕ → Ink) → Belief → ℕ → ℕ → State → Type 0
Typed t old new b r c = Agrees t (mixed old new r c) (standing b r c)

typed_at : (t : Table) (old new : ℕ → ℕ → Ink) (b : Belief) (r c d : ℕ) → c ≡ d → (s : State) → Typed t old new b r c s → Typed t old new b r d s
typed_at t old new b r c d e s h = let P : ℕ → Type 0 = λ n. Typed t old new b r n s in subst P e h

none_left : (front back : List ℕ) → [] ≡ front ++ back → front ≡ []
none_left [] back e = refl
none_left (x ∷ xs) back e = cc

leads_none : (P : List ℕ → Type 0) (D A : State → Type 0) → ((s : State) → A s → s.rest ≡ []) → ((s : State) → A s → D s) → Leads P 0 D A [] A
leads_none P D A rest d = record {
  pieces = [];
  made = refl;
  each = tt;
  bound = omega arith;
  ends = λ s x. record { after = s; runs = runs_nothing s (subst IsOpen (sym (rest s x)) empty_open); there = x };
  cut = λ front back e s x. subst (λ (l : List ℕ). Ends s l D) (sym (none_left front back e)) (record { after = s; runs = runs_nothing s (subst IsOpen (sym (rest s x)) empty_open); there = d s x });
}

first_leads : (t : Table) → IsChecked t → (old new : ℕ → ℕ → Ink) → CanShow t new → (b : Belief) (r c x : ℕ) → r < t.rows → c < t.cols → IsAlike b (new r c) → (new r c).byte ≡ x
    → Leads (IsPaint t) 1 (IsLost t) (Typed t old new b r c) (x ∷ []) (Typed t old new b r (c + 1))
first_leads t checked old new can b r c x lr lc alike byte =
    let P : ℕ → Type 0 = λ n. Leads (IsPaint t) 1 (IsLost t) (Typed t old new b r c) (n ∷ []) (Typed t old new b r (c + 1)) in
    subst P byte (leads_wider (IsPaint t) 1 1 (IsLost t) (Typed t old new b r c) (Agrees t (put_at r c (new r c) (mixed old new r c)) (standing b r (c + 1))) (Typed t old new b r c) (Typed t old new b r (c + 1)) ((new r c).byte ∷ [])
    (omega arith) (λ s h. h) (agrees_mixed t old new r c (standing b r (c + 1)))
    (print_leads t checked (mixed old new r c) (standing b r c) r c (new r c) lr lc (can r c).printed (record { place = inl refl; brush = alike.brush; set = alike.set })))

pub text_leads : (t : Table) → IsChecked t → (old new : ℕ → ℕ → Ink) → CanShow t new → (b : Belief) (r c : ℕ) (text : List ℕ) → r < t.rows → c + length text ≤ t.cols
    → ((k : ℕ) → k < length text → IsAlike b (new r (c + k))) → ((k : ℕ) → k < length text → (new r (c + k)).byte ≡ get_or text k 0)
    → Leads (IsPaint t) (length text) (IsLost t) (Typed t old new b r c) text (Typed t old new b r (c + length text))
text_leads t checked old new can b r c [] lr le alike bytes =
    leads_wider (IsPaint t) 0 0 (IsLost t) (Typed t old new b r c) (Typed t old new b r c) (Typed t old new b r c) (Typed t old new b r (c + 0)) [] (omega arith) (λ s h. h) (typed_at t old new b r c (c + 0) (omega arith))
    (leads_none (IsPaint t) (IsLost t) (Typed t old new b r c) (λ s h. h.ready.rest) (agrees_lost t checked (mixed old new r c) (standing b r c)))
text_leads t checked old new can b r c (x ∷ xs) lr le alike bytes =
    let A : ℕ → Type 0 = λ n. IsAlike b (new r n) in
    let B : ℕ → ℕ → Type 0 = λ n m. (new r n).byte ≡ m in
    let first : Leads (IsPaint t) 1 (IsLost t) (Typed t old new b r c) (x ∷ []) (Typed t old new b r (c + 1)) =
    first_leads t checked old new can b r c x lr (omega (arith, le)) (subst A (omega arith) (alike 0 (omega arith))) (subst (λ (n : ℕ). B n x) (omega arith) (bytes 0 (omega arith))) in
    let others : Leads (IsPaint t) (length xs) (IsLost t) (Typed t old new b r (c + 1)) xs (Typed t old new b r (c + 1 + length xs)) =
    text_leads t checked old new can b r (c + 1) xs lr (omega (arith, le))
    (λ k lt. subst A (omega arith) (alike (suc k) (omega (arith, lt)))) (λ k lt. subst (λ (n : ℕ). B n (get_or xs k 0)) (omega arith) (bytes (suc k) (omega (arith, lt)))) in
    leads_wider (IsPaint t) (1 + length xs) (length (x ∷ xs)) (IsLost t) (Typed t old new b r c) (Typed t old new b r (c + 1 + length xs)) (Typed t old new b r c) (Typed t old new b r (c + length (x ∷ xs))) (x ∷ xs)
    (omega arith) (λ s h. h) (typed_at t old new b r (c + 1 + length xs) (c + length (x ∷ xs)) (omega arith))
    (leads_then (IsPaint t) 1 (length xs) (IsLost t) (Typed t old new b r c) (Typed t old new b r (c + 1)) (Typed t old new b r (c + 1 + length xs)) (x ∷ []) xs first others)

pub text_steps : {W T E : Type 0} (went : W → W → List ℕ → Type 0) (failures : W → ℕ) (a z : W) (answer : Result T E) (t : Table) → IsChecked t → (old new : ℕ → ℕ → Ink) → CanShow t new → (b : Belief) (r c n : ℕ) (text : List ℕ)
    → length text ≡ n → r < t.rows → c + n ≤ t.cols → ((k : ℕ) → k < n → IsAlike b (new r (c + k))) → ((k : ℕ) → k < n → (new r (c + k)).byte ≡ get_or text k 0) → b.place ≡ record { row = r; col = c }
    → Sends went failures a z text answer → Steps went failures a z answer (IsPaint t) n (IsLost t) (Agrees t (mixed old new r c) b) (Typed t old new b r (c + n))
text_steps went failures a z answer t checked old new can b r c n text e lr le alike bytes place sends =
    let C : ℕ → State → Type 0 = λ m. Typed t old new b r (c + m) in
    let F : ℕ → Type 0 = λ m. Leads (IsPaint t) m (IsLost t) (Typed t old new b r c) text (C m) in
    let leads : F n = subst F e (text_leads t checked old new can b r c text lr (omega (arith, e, le)) (λ k lt. alike k (omega (arith, lt, e))) (λ k lt. bytes k (omega (arith, lt, e)))) in
    steps_sent went failures a z answer (IsPaint t) n (IsLost t) (Agrees t (mixed old new r c) b) (C n) text
    (leads_wider (IsPaint t) n n (IsLost t) (Typed t old new b r c) (C n) (Agrees t (mixed old new r c) b) (C n) text (omega arith) here (λ s h. h) leads)
    (agrees_lost t checked (mixed old new r (c + n)) (standing b r (c + n))) sends
  where
    here : (s : State) → Agrees t (mixed old new r c) b s → Typed t old new b r c s
    here s h = record { ready = h.ready; cells = h.cells; place = subst (λ (o : Place). IsHere t.cols o s.screen.row s.screen.col s.screen.pending) place h.place; brush = h.brush; colored = h.colored; set = h.set; seen = h.seen }
