-- Steps that may fail, one after another.
use Rattle.std.proofs.Common.{◌≡◌, ℕ, ◌+◌, ◌≤◌, List, [], ◌∷◌, ◌++◌, length, Result, Ok, Err, refl, sym, ap, subst, ◌∙◌, arith, append_assoc}
use Rattle.std.proofs.lemmas.List.{append-nil}
use Rattle.std.specs.Prelude.{OnOk}
use Rattle.std.specs.List.{AllByRecursion}
use Rattle.vt_term.specs.Screen.{State}
use Rattle.vt_term.specs.Text.{IsOpen}
use Rattle.vt_term.proofs.Sequences.{empty_open}
use Rattle.vt_term.proofs.Runs.{runs_nothing}
use Rattle.cur_steps.specs.Wire.{IsWire, Sends}
use Rattle.cur_steps.specs.Leads.{Leads}
use Rattle.vt_term.specs.Ends.{Ends}
use Rattle.cur_steps.proofs.Leads.{leads_then, leads_wider}
use Rattle.cur_steps.proofs.Paints.{sends_then}
use Rattle.cur_steps.specs.WireSteps.{then_kind, Spells, Steps}

pub all_as : (P Q : List ℕ → Type 0) → ((x : List ℕ) → P x → Q x) → (xs : List (List ℕ)) → AllByRecursion P xs → AllByRecursion Q xs
all_as P Q f [] h = tt
all_as P Q f (x ∷ xs) h = (f x h.0, all_as P Q f xs h.1)

-- a step that failed ends the whole; the steps that would have followed don't matter
pub steps_fail : {W T E U F : Type 0} (went : W → W → List ℕ → Type 0) (failures : W → ℕ) (a b : W) (v : E) (u : F) (P : List ℕ → Type 0) (m n : ℕ) (D A B C : State → Type 0)
    → m ≤ n → Steps {T = T} {E = E} went failures a b (Err v) P m D A B → Steps {T = U} {E = F} went failures a b (Err u) P n D A C
steps_fail went failures a b v u P m n D A B C le h = record {
  bytes = h.bytes;
  leads = leads_wider P m n D A D A D h.bytes le (λ s x. x) (λ s x. x) h.leads;
  sends = record { front = h.sends.front; back = h.sends.back; parts = h.sends.parts; some_left = h.sends.some_left; sent = h.sends.sent; failed = h.sends.failed };
}

by_answer : {W T E U F : Type 0} (went : W → W → List ℕ → Type 0) (failures : W → ℕ) → IsWire went failures → (a b c : W) (v : U) (answer : Result T E) (P : List ℕ → Type 0) (m n : ℕ) (D A B C : State → Type 0)
    → Steps {T = U} {E = F} went failures a b (Ok v) P m D A B → Steps went failures b c answer P n D B C → Steps went failures a c answer P (m + n) D A C
by_answer went failures laws a b c v answer P m n D A B C h k = record {
  bytes = h.bytes ++ k.bytes;
  leads = leads_then P m n D A B (then_kind answer C D) h.bytes k.bytes h.leads k.leads;
  sends = sends_then went failures laws a b c h.bytes k.bytes answer h.sends k.sends;
}

pub steps_then : {W T E U F : Type 0} (went : W → W → List ℕ → Type 0) (failures : W → ℕ) → IsWire went failures → (a b c : W) (v : U) (answer : Result T E) (P : List ℕ → Type 0) (m n : ℕ) (D A B C : State → Type 0)
    → Steps {T = U} {E = F} went failures a b (Ok v) P m D A B → Steps went failures b c answer P n D B C → Steps went failures a c answer P (m + n) D A C
steps_then went failures laws a b c v answer P m n D A B C h k = by_answer went failures laws a b c v answer P m n D A B C h k

-- one piece, whose prefixes lead to the kind between
pub leads_line : (P : List ℕ → Type 0) (n : ℕ) (D A B : State → Type 0) (x : List ℕ) → P x → length x ≤ n → ((s : State) → A s → Ends s x B)
    → ((s : State) → A s → (front back : List ℕ) → x ≡ front ++ back → Ends s front D) → Leads P n D A x B
leads_line P n D A B x p le h k = record { pieces = x ∷ []; made = sym (append-nil x); each = (p, tt); bound = le; ends = h; cut = λ front back e s a. k s a front back e }

-- bytes that lead on, sent
pub steps_sent : {W T E : Type 0} (went : W → W → List ℕ → Type 0) (failures : W → ℕ) (a b : W) (answer : Result T E) (P : List ℕ → Type 0) (n : ℕ) (D A B : State → Type 0) (bytes : List ℕ)
    → Leads P n D A bytes B → ((s : State) → B s → D s) → Sends went failures a b bytes answer → Steps went failures a b answer P n D A B
steps_sent went failures a b (Ok v) P n D A B bytes h f k = record { bytes = bytes; leads = h; sends = k }
steps_sent went failures a b (Err v) P n D A B bytes h f k = record { bytes = bytes; leads = leads_wider P n n D A B A D bytes (omega arith) (λ s x. x) f h; sends = k }

-- nothing is sent
pub steps_nothing : {W T E : Type 0} (went : W → W → List ℕ → Type 0) (failures : W → ℕ) → IsWire went failures → (a : W) (v : T) (P : List ℕ → Type 0) (n : ℕ) (D A B : State → Type 0)
    → ((s : State) → A s → s.rest ≡ []) → ((s : State) → A s → B s) → ((s : State) → A s → D s) → Steps {T = T} {E = E} went failures a a (Ok v) P n D A B
steps_nothing went failures laws a v P n D A B rest f d = record {
  bytes = [];
  leads = record {
    pieces = [];
    made = refl;
    each = tt;
    bound = omega arith;
    ends = λ s x. record { after = s; runs = runs_nothing s (subst IsOpen (sym (rest s x)) empty_open); there = f s x };
    cut = λ front back e s x. (let none : front ≡ [] = nofront front back e in
        subst (λ (l : List ℕ). Ends s l D) (sym none) (record { after = s; runs = runs_nothing s (subst IsOpen (sym (rest s x)) empty_open); there = d s x }));
  };
  sends = laws.nothing a;
}
  where
    nofront : (front back : List ℕ) → [] ≡ front ++ back → front ≡ []
    nofront [] back e = refl
    nofront (x ∷ xs) back e = cc

-- a step between other kinds, under a greater limit
pub steps_wider : {W T E : Type 0} (went : W → W → List ℕ → Type 0) (failures : W → ℕ) (a b : W) (answer : Result T E) (P : List ℕ → Type 0) (m n : ℕ) (D A B F G : State → Type 0)
    → m ≤ n → ((s : State) → F s → A s) → ((s : State) → B s → G s) → Steps went failures a b answer P m D A B → Steps went failures a b answer P n D F G
steps_wider went failures a b (Ok v) P m n D A B F G le f g h = record { bytes = h.bytes; leads = leads_wider P m n D A B F G h.bytes le f g h.leads; sends = h.sends }
steps_wider went failures a b (Err v) P m n D A B F G le f g h = record { bytes = h.bytes; leads = leads_wider P m n D A D F D h.bytes le f (λ s x. x) h.leads; sends = h.sends }

-- one step and then another, within a limit for both
pub steps_next : {W T E U F : Type 0} (went : W → W → List ℕ → Type 0) (failures : W → ℕ) → IsWire went failures → (a b c : W) (v : U) (answer : Result T E) (P : List ℕ → Type 0) (m n k : ℕ) (D A B C : State → Type 0)
    → m + n ≤ k → Steps {T = U} {E = F} went failures a b (Ok v) P m D A B → Steps went failures b c answer P n D B C → Steps went failures a c answer P k D A C
steps_next went failures laws a b c v answer P m n k D A B C le h j =
    steps_wider went failures a c answer P (m + n) k D A C A C le (λ s x. x) (λ s x. x) (steps_then went failures laws a b c v answer P m n D A B C h j)

pub on_ok_map : {T E : Type 0} (r : Result T E) (P Q : Type 0) → (P → Q) → OnOk r P → OnOk r Q
on_ok_map (Ok v) P Q f h = f h
on_ok_map (Err v) P Q f h = tt

-- three steps, within a limit for all
pub steps_three : {W T E U F V G : Type 0} (went : W → W → List ℕ → Type 0) (failures : W → ℕ) → IsWire went failures → (a b c d : W) (v : U) (w : V) (answer : Result T E) (P : List ℕ → Type 0) (m n k limit : ℕ) (D A B C H : State → Type 0)
    → (m + n) + k ≤ limit → Steps {T = U} {E = F} went failures a b (Ok v) P m D A B → Steps {T = V} {E = G} went failures b c (Ok w) P n D B C → Steps went failures c d answer P k D C H → Steps went failures a d answer P limit D A H
steps_three went failures laws a b c d v w answer P m n k limit D A B C H le f g h =
    steps_next went failures laws a c d w answer P (m + n) k limit D A C H le (steps_then went failures laws a b c v (Ok w) P m n D A B C f g) h

-- two steps, the second of which fails, so that a third isn't reached
pub steps_two_fail : {W T E U F V G : Type 0} (went : W → W → List ℕ → Type 0) (failures : W → ℕ) → IsWire went failures → (a b c : W) (v : U) (x : G) (u : E) (P : List ℕ → Type 0) (m n limit : ℕ) (D A B C H : State → Type 0)
    → m + n ≤ limit → Steps {T = U} {E = F} went failures a b (Ok v) P m D A B → Steps {T = V} {E = G} went failures b c (Err x) P n D B C → Steps {T = T} {E = E} went failures a c (Err u) P limit D A H
steps_two_fail went failures laws a b c v x u P m n limit D A B C H le f g =
    steps_fail went failures a c x u P (m + n) limit D A C H le (steps_then went failures laws a b c v (Err x) P m n D A B C f g)

-- nothing is sent, and the kinds need only say that no sequence is open
pub steps_none : {W T E : Type 0} (went : W → W → List ℕ → Type 0) (failures : W → ℕ) → IsWire went failures → (a : W) (v : T) (P : List ℕ → Type 0) (n : ℕ) (D A : State → Type 0)
    → ((s : State) → A s → s.rest ≡ []) → ((s : State) → A s → D s) → Steps {T = T} {E = E} went failures a a (Ok v) P n D A A
steps_none went failures laws a v P n D A rest d = steps_nothing went failures laws a v P n D A A rest (λ s x. x) d

-- ---- steps that send a text

-- bytes that lead on, sent
pub spells_sent : {W T E : Type 0} (went : W → W → List ℕ → Type 0) (failures : W → ℕ) (a b : W) (answer : Result T E) (P : List ℕ → Type 0) (n : ℕ) (D A B : State → Type 0) (bytes : List ℕ)
    → Leads P n D A bytes B → ((s : State) → B s → D s) → Sends went failures a b bytes answer → Spells went failures a b answer bytes P n D A B
unfolding steps_sent
spells_sent went failures a b (Ok v) P n D A B bytes h f k = record { step = record { bytes = bytes; leads = h; sends = k }; all = refl }
spells_sent went failures a b (Err v) P n D A B bytes h f k = record { step = steps_sent went failures a b (Err v) P n D A B bytes h f k; all = ([], sym (append-nil bytes)) }

-- nothing is sent
pub spells_nothing : {W T E : Type 0} (went : W → W → List ℕ → Type 0) (failures : W → ℕ) → IsWire went failures → (a : W) (v : T) (P : List ℕ → Type 0) (n : ℕ) (D A B : State → Type 0)
    → ((s : State) → A s → s.rest ≡ []) → ((s : State) → A s → B s) → ((s : State) → A s → D s) → Spells {T = T} {E = E} went failures a a (Ok v) [] P n D A B
unfolding steps_nothing
spells_nothing went failures laws a v P n D A B rest f d = record { step = steps_nothing went failures laws a v P n D A B rest f d; all = refl }

-- one text after another, within a limit for both
pub spells_next : {W T E U F : Type 0} (went : W → W → List ℕ → Type 0) (failures : W → ℕ) → IsWire went failures → (a b c : W) (v : U) (answer : Result T E) (x y : List ℕ) (P : List ℕ → Type 0) (m n k : ℕ) (D A B C : State → Type 0)
    → m + n ≤ k → Spells {T = U} {E = F} went failures a b (Ok v) x P m D A B → Spells went failures b c answer y P n D B C → Spells went failures a c answer (x ++ y) P k D A C
unfolding steps_next steps_wider steps_then by_answer
spells_next went failures laws a b c v (Ok w) x y P m n k D A B C le h j = record {
  step = steps_next went failures laws a b c v (Ok w) P m n k D A B C le h.step j.step;
  all = ap (λ (l : List ℕ). l ++ j.step.bytes) h.all ∙ ap (λ (l : List ℕ). x ++ l) j.all;
}
spells_next went failures laws a b c v (Err e) x y P m n k D A B C le h j = record {
  step = steps_next went failures laws a b c v (Err e) P m n k D A B C le h.step j.step;
  all = (j.all.0, ap (λ (l : List ℕ). x ++ l) j.all.1 ∙ sym (append_assoc x j.step.bytes j.all.0) ∙ ap (λ (l : List ℕ). (l ++ j.step.bytes) ++ j.all.0) (sym h.all));
}

-- the first of two texts is cut short
pub spells_fail : {W T E U F : Type 0} (went : W → W → List ℕ → Type 0) (failures : W → ℕ) (a b : W) (v : E) (u : F) (x y : List ℕ) (P : List ℕ → Type 0) (m n : ℕ) (D A B C : State → Type 0)
    → m ≤ n → Spells {T = T} {E = E} went failures a b (Err v) x P m D A B → Spells {T = U} {E = F} went failures a b (Err u) (x ++ y) P n D A C
unfolding steps_fail
spells_fail went failures a b v u x y P m n D A B C le h = record {
  step = steps_fail went failures a b v u P m n D A B C le h.step;
  all = (h.all.0 ++ y, ap (λ (l : List ℕ). l ++ y) h.all.1 ∙ append_assoc h.step.bytes h.all.0 y);
}

-- a text equal to the one sent, under a greater limit
pub spells_as : {W T E : Type 0} (went : W → W → List ℕ → Type 0) (failures : W → ℕ) (a b : W) (answer : Result T E) (x y : List ℕ) (P : List ℕ → Type 0) (m n : ℕ) (D A B : State → Type 0)
    → x ≡ y → m ≤ n → Spells went failures a b answer x P m D A B → Spells went failures a b answer y P n D A B
unfolding steps_wider
spells_as went failures a b (Ok v) x y P m n D A B e le h = record {
  step = steps_wider went failures a b (Ok v) P m n D A B A B le (λ s p. p) (λ s p. p) h.step;
  all = h.all ∙ e;
}
spells_as went failures a b (Err v) x y P m n D A B e le h = record {
  step = steps_wider went failures a b (Err v) P m n D A B A B le (λ s p. p) (λ s p. p) h.step;
  all = (h.all.0, sym e ∙ h.all.1);
}

-- ---- pieces of another sort

pub leads_each : (P Q : List ℕ → Type 0) (n : ℕ) (D A B : State → Type 0) (bytes : List ℕ) → ((x : List ℕ) → P x → Q x) → Leads P n D A bytes B → Leads Q n D A bytes B
leads_each P Q n D A B bytes f h = record { pieces = h.pieces; made = h.made; each = all_as P Q f h.pieces h.each; bound = h.bound; ends = h.ends; cut = h.cut }
