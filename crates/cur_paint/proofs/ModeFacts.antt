-- The cursor's mode, which is set last but for the cursor's place, and the painting before and after that.
use Rattle.std.proofs.Common.{◌≡◌, ℕ, ◌+◌, ◌≤◌, List, [], ◌++◌, Option, Some, None, Result, Ok, Err, refl, sym, ap, ◌∙◌, arith, append_assoc}
use Rattle.std.specs.Prelude.{OnOk}
use Rattle.std.specs.List.{concat}
use Rattle.vt_term.specs.Screen.{State}
use Rattle.cur_steps.specs.Wire.{IsWire}
use Rattle.cur_steps.specs.WireSteps.{Spells, Steps, then_kind}
use Rattle.cur_steps.specs.Leads.{Leads}
use Rattle.cur_steps.proofs.Leads.{all_append, concat-append, leads_then, leads_wider}
use Rattle.cur_steps.proofs.Paints.{sends_then}
use Rattle.cur_steps.proofs.Stops.{leads_each, on_ok_map, spells_nothing}
use Rattle.ti_conforms.specs.Certified.{Table, IsLost, IsPiece, Line, Character}
use Rattle.cur_steps.specs.Pieces.{IsPaint, Stroke, Printed}
use Rattle.cur_steps.specs.Beliefs.{mode_text}
use Rattle.cur_steps.proofs.Answers.{text_same}
use Rattle.cur_steps.specs.declared.beliefs.Mode.{Mode}
use Rattle.cur_steps.specs.declared.beliefs.Place.{Place}
use Rattle.cur_paint.specs.Modes.{IsPainted, OnlyPaints, move_limit}
use Rattle.cur_paint.specs.Scenes.{Sets}

pub move_short : (t : Table) (cursor : Option Place) → move_limit t cursor ≤ t.longest.cup
move_short t None = omega arith
move_short t (Some p) = omega arith

-- ---- painting

pub paint_piece : (t : Table) (x : List ℕ) → IsPaint t x → IsPiece t x
paint_piece t x (Stroke row paint is) = Line row is
paint_piece t x (Printed b printed is) = Character b printed is

pub painted : (t : Table) (n : ℕ) (D A B : State → Type 0) (bytes : List ℕ) → Leads (IsPaint t) n D A bytes B → IsPainted t bytes
painted t n D A B bytes h = record { pieces = h.pieces; made = h.made; each = h.each }

pub painted_more : (t : Table) (x y : List ℕ) → IsPainted t x → IsPainted t y → IsPainted t (x ++ y)
painted_more t x y h k = record {
  pieces = h.pieces ++ k.pieces;
  made = ap (λ (l : List ℕ). l ++ y) h.made ∙ ap (λ (l : List ℕ). concat h.pieces ++ l) k.made ∙ sym (concat-append h.pieces k.pieces);
  each = all_append (IsPaint t) h.pieces k.pieces h.each k.each;
}

painted_none : (t : Table) → IsPainted t []
painted_none t = record { pieces = []; made = refl; each = tt }

-- ---- nothing goes out that wasn't asked for

-- a proposition that holds also holds if a call succeeds
pub so : {T E : Type 0} (answer : Result T E) (P : Type 0) → P → OnOk answer P
so (Ok v) P p = p
so (Err e) P p = tt

-- painting before bytes that only paint
quiet_more : (t : Table) (now : Option Mode) (cursor : Option Place) (m : Mode) (x bytes : List ℕ) → IsPainted t x → OnlyPaints t [] now cursor m bytes → OnlyPaints t [] now cursor m (x ++ bytes)
quiet_more t now cursor m x bytes p h = record {
  front = x ++ h.front;
  back = h.back;
  parts = ap (λ (y : List ℕ). x ++ y) h.parts ∙ sym (append_assoc x h.front (mode_text t now m ++ h.back));
  before = painted_more t x h.front p h.before;
  after = h.after;
  short = h.short;
}

-- an opening before bytes that only paint
pub quiet_first : {T E : Type 0} (answer : Result T E) (t : Table) (first : List ℕ) (now : Option Mode) (cursor : Option Place) (m : Mode) (bytes : List ℕ) → OnOk answer (OnlyPaints t [] now cursor m bytes) → OnOk answer (OnlyPaints t first now cursor m (first ++ bytes))
quiet_first answer t first now cursor m bytes h = on_ok_map answer (OnlyPaints t [] now cursor m bytes) (OnlyPaints t first now cursor m (first ++ bytes)) (λ k. record {
  front = k.front;
  back = k.back;
  parts = ap (λ (y : List ℕ). first ++ y) k.parts;
  before = k.before;
  after = k.after;
  short = k.short;
}) h

-- an opening that paints counts as painting
pub quiet_joined : {T E : Type 0} (answer : Result T E) (t : Table) (first : List ℕ) (now : Option Mode) (cursor : Option Place) (m : Mode) (bytes : List ℕ) → IsPainted t first → OnOk answer (OnlyPaints t first now cursor m bytes) → OnOk answer (OnlyPaints t [] now cursor m bytes)
quiet_joined answer t first now cursor m bytes p h = on_ok_map answer (OnlyPaints t first now cursor m bytes) (OnlyPaints t [] now cursor m bytes) (λ k. record {
  front = first ++ k.front;
  back = k.back;
  parts = k.parts ∙ sym (append_assoc first k.front (mode_text t now m ++ k.back));
  before = painted_more t first k.front p k.before;
  after = k.after;
  short = k.short;
}) h

-- ---- the steps of a refresh

-- the mode's strings, and then the cursor's move
pub sets_last : {W T E U F : Type 0} (went : W → W → List ℕ → Type 0) (failures : W → ℕ) → IsWire went failures → (a m z : W) (v : U) (answer : Result T E) (t : Table) (j k limit : ℕ) (now : Option Mode) (cursor : Option Place) (mode : Mode) (A B C : State → Type 0)
    → j + k ≤ limit → k ≤ move_limit t cursor → Spells {T = U} {E = F} went failures a m (Ok v) (mode_text t now mode) (IsPiece t) j (IsLost t) A B → Steps went failures m z answer (IsPaint t) k (IsLost t) B C
    → Sets went failures a z answer t limit now cursor mode A C
sets_last went failures laws a m z v answer t j k limit now cursor mode A B C le few h steps =
    let D : State → Type 0 = then_kind answer C (IsLost t) in
    record {
      step = record {
        bytes = h.step.bytes ++ steps.bytes;
        leads = leads_wider (IsPiece t) (j + k) limit (IsLost t) A D A D (h.step.bytes ++ steps.bytes) le (λ s x. x) (λ s x. x)
            (leads_then (IsPiece t) j k (IsLost t) A B D h.step.bytes steps.bytes h.step.leads (leads_each (IsPaint t) (IsPiece t) k (IsLost t) B D steps.bytes (paint_piece t) steps.leads));
        sends = sends_then went failures laws a m z h.step.bytes steps.bytes answer h.step.sends steps.sends;
      };
      quiet = so answer (OnlyPaints t [] now cursor mode (h.step.bytes ++ steps.bytes)) (record {
        front = [];
        back = steps.bytes;
        parts = ap (λ (l : List ℕ). l ++ steps.bytes) h.all;
        before = painted_none t;
        after = painted t k (IsLost t) B D steps.bytes steps.leads;
        short = omega (arith, few, steps.leads.bound);
      });
    }

-- the mode's strings were cut short
pub sets_unfinished : {W T E F : Type 0} (went : W → W → List ℕ → Type 0) (failures : W → ℕ) (a z : W) (v : E) (u : F) (t : Table) (j limit : ℕ) (now : Option Mode) (cursor : Option Place) (mode : Mode) (A B C : State → Type 0)
    → j ≤ limit → Spells {T = T} {E = E} went failures a z (Err v) (mode_text t now mode) (IsPiece t) j (IsLost t) A B → Sets {T = T} {E = F} went failures a z (Err u) t limit now cursor mode A C
sets_unfinished went failures a z v u t j limit now cursor mode A B C le h = record {
  step = record {
    bytes = h.step.bytes;
    leads = leads_wider (IsPiece t) j limit (IsLost t) A (IsLost t) A (IsLost t) h.step.bytes le (λ s x. x) (λ s x. x) h.step.leads;
    sends = h.step.sends;
  };
  quiet = tt;
}

-- the painting before the mode's strings was cut short
pub sets_cut : {W T E F : Type 0} (went : W → W → List ℕ → Type 0) (failures : W → ℕ) (a z : W) (v : E) (u : F) (t : Table) (j limit : ℕ) (now : Option Mode) (cursor : Option Place) (mode : Mode) (A B C : State → Type 0)
    → j ≤ limit → Steps {T = T} {E = E} went failures a z (Err v) (IsPaint t) j (IsLost t) A B → Sets {T = T} {E = F} went failures a z (Err u) t limit now cursor mode A C
sets_cut went failures a z v u t j limit now cursor mode A B C le h = record {
  step = record {
    bytes = h.bytes;
    leads = leads_wider (IsPiece t) j limit (IsLost t) A (IsLost t) A (IsLost t) h.bytes le (λ s x. x) (λ s x. x)
        (leads_each (IsPaint t) (IsPiece t) j (IsLost t) A (IsLost t) h.bytes (paint_piece t) h.leads);
    sends = h.sends;
  };
  quiet = tt;
}

-- other bytes first
pub sets_after : {W T E U F : Type 0} (went : W → W → List ℕ → Type 0) (failures : W → ℕ) → IsWire went failures → (a m z : W) (v : U) (answer : Result T E) (t : Table) (j k limit : ℕ) (now : Option Mode) (cursor : Option Place) (mode : Mode) (A B C : State → Type 0)
    → j + k ≤ limit → Steps {T = U} {E = F} went failures a m (Ok v) (IsPaint t) j (IsLost t) A B → Sets went failures m z answer t k now cursor mode B C
    → Sets went failures a z answer t limit now cursor mode A C
sets_after went failures laws a m z v answer t j k limit now cursor mode A B C le h s =
    let D : State → Type 0 = then_kind answer C (IsLost t) in
    record {
      step = record {
        bytes = h.bytes ++ s.step.bytes;
        leads = leads_wider (IsPiece t) (j + k) limit (IsLost t) A D A D (h.bytes ++ s.step.bytes) le (λ u x. x) (λ u x. x)
            (leads_then (IsPiece t) j k (IsLost t) A B D h.bytes s.step.bytes (leads_each (IsPaint t) (IsPiece t) j (IsLost t) A B h.bytes (paint_piece t) h.leads) s.step.leads);
        sends = sends_then went failures laws a m z h.bytes s.step.bytes answer h.sends s.step.sends;
      };
      quiet = on_ok_map answer (OnlyPaints t [] now cursor mode s.step.bytes) (OnlyPaints t [] now cursor mode (h.bytes ++ s.step.bytes)) (quiet_more t now cursor mode h.bytes s.step.bytes (painted t j (IsLost t) A B h.bytes h.leads)) s.quiet;
    }

-- nothing at all
pub sets_nothing : {W T E : Type 0} (went : W → W → List ℕ → Type 0) (failures : W → ℕ) → IsWire went failures → (a : W) (v : T) (t : Table) (limit : ℕ) (now : Option Mode) (cursor : Option Place) (mode : Mode) (A B : State → Type 0)
    → now ≡ Some mode → ((s : State) → A s → s.rest ≡ []) → ((s : State) → A s → B s) → ((s : State) → A s → IsLost t s) → Sets {T = T} {E = E} went failures a a (Ok v) t limit now cursor mode A B
sets_nothing went failures laws a v t limit now cursor mode A B e rest f d =
    let h = spells_nothing went failures laws a v (IsPiece t) limit (IsLost t) A B rest f d in
    record {
      step = h.step;
      quiet = record {
        front = [];
        back = [];
        parts = h.all ∙ sym (ap (λ (l : List ℕ). l ++ []) (text_same t now mode e));
        before = painted_none t;
        after = painted_none t;
        short = omega arith;
      };
    }

-- under a greater limit
pub sets_wider : {W T E : Type 0} (went : W → W → List ℕ → Type 0) (failures : W → ℕ) (a z : W) (answer : Result T E) (t : Table) (k limit : ℕ) (now : Option Mode) (cursor : Option Place) (mode : Mode) (A B : State → Type 0)
    → k ≤ limit → Sets went failures a z answer t k now cursor mode A B → Sets went failures a z answer t limit now cursor mode A B
sets_wider went failures a z answer t k limit now cursor mode A B le s =
    let D : State → Type 0 = then_kind answer B (IsLost t) in
    record {
      step = record { bytes = s.step.bytes; leads = leads_wider (IsPiece t) k limit (IsLost t) A D A D s.step.bytes le (λ u x. x) (λ u x. x) s.step.leads; sends = s.step.sends };
      quiet = s.quiet;
    }
