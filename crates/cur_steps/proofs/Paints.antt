-- The bytes sent by one step of a painter after another.
use Rattle.std.proofs.Common.{ℕ, ◌+◌, ◌≤◌, List, ◌++◌, sym, ap, ◌∙◌, arith, append_assoc, length-append, Result, Ok, Err}
use Rattle.vt_term.specs.Screen.{State}
use Rattle.cur_steps.specs.Wire.{IsWire, StopsIn, Sends}
use Rattle.cur_steps.specs.Leads.{Leads}
use Rattle.cur_steps.specs.Paints.{Paints}
use Rattle.cur_steps.proofs.Sends.{rose_later}
use Rattle.cur_steps.proofs.Leads.{leads_then, leads_wider}

pub sends_then : {W T E : Type 0} (went : W → W → List ℕ → Type 0) (failures : W → ℕ) → IsWire went failures → (a b c : W) (x y : List ℕ) (answer : Result T E)
    → went a b x → Sends went failures b c y answer → Sends went failures a c (x ++ y) answer
sends_then went failures laws a b c x y (Ok v) h k = laws.joins a b c x y h k
sends_then went failures laws a b c x y (Err v) h k = record {
  front = x ++ k.front;
  back = k.back;
  parts = ap (λ (l : List ℕ). x ++ l) k.parts ∙ sym (append_assoc x k.front k.back);
  some_left = k.some_left;
  sent = laws.joins a b c x k.front h k.sent;
  failed = rose_later (failures a) (failures b) (failures c) (laws.counts a b x h) k.failed;
}

pub stops_more : {W : Type 0} (went : W → W → List ℕ → Type 0) (failures : W → ℕ) (a b : W) (x y : List ℕ) → StopsIn went failures a b x → StopsIn went failures a b (x ++ y)
stops_more went failures a b x y h = record {
  front = h.front;
  back = h.back ++ y;
  parts = ap (λ (l : List ℕ). l ++ y) h.parts ∙ append_assoc h.front h.back y;
  some_left = omega (arith, h.some_left, length-append h.back y);
  sent = h.sent;
  failed = h.failed;
}

-- a step that succeeded, and then another
pub paints_then : {W T E U F : Type 0} (went : W → W → List ℕ → Type 0) (failures : W → ℕ) → IsWire went failures → (a b c : W) (v : U) (answer : Result T E)
    (P : List ℕ → Type 0) (m n : ℕ) (D A B C : State → Type 0)
    → Paints {T = U} {E = F} went failures a b (Ok v) P m D A B → Paints went failures b c answer P n D B C → Paints went failures a c answer P (m + n) D A C
paints_then went failures laws a b c v answer P m n D A B C h k = record {
  bytes = h.bytes ++ k.bytes;
  leads = leads_then P m n D A B C h.bytes k.bytes h.leads k.leads;
  sends = sends_then went failures laws a b c h.bytes k.bytes answer h.sends k.sends;
}

-- a step that failed before more would have followed
pub paints_cut : {W T E U F : Type 0} (went : W → W → List ℕ → Type 0) (failures : W → ℕ) (a b : W) (v : E) (u : F)
    (P : List ℕ → Type 0) (m n : ℕ) (D A B C : State → Type 0) (more : List ℕ)
    → Paints {T = T} {E = E} went failures a b (Err v) P m D A B → Leads P n D B more C → Paints {T = U} {E = F} went failures a b (Err u) P (m + n) D A C
paints_cut went failures a b v u P m n D A B C more h k = record {
  bytes = h.bytes ++ more;
  leads = leads_then P m n D A B C h.bytes more h.leads k;
  sends = stops_more went failures a b h.bytes more h.sends;
}

-- a step from a narrower kind to a wider one, under a greater limit
pub paints_wider : {W T E : Type 0} (went : W → W → List ℕ → Type 0) (failures : W → ℕ) (a b : W) (answer : Result T E)
    (P : List ℕ → Type 0) (m n : ℕ) (D A B E1 F1 : State → Type 0) → m ≤ n → ((s : State) → E1 s → A s) → ((s : State) → B s → F1 s)
    → Paints went failures a b answer P m D A B → Paints went failures a b answer P n D E1 F1
paints_wider went failures a b answer P m n D A B E1 F1 le f g h = record {
  bytes = h.bytes;
  leads = leads_wider P m n D A B E1 F1 h.bytes le f g h.leads;
  sends = h.sends;
}
