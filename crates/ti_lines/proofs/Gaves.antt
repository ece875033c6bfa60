-- The bytes that a reader gave, piece after piece.
use Rattle.std.proofs.Common.{◌≡◌, ℕ, ◌+◌, ◌≤◌, ◌⊎◌, List, [], ◌++◌, None, length, refl, sym, ap, subst, ◌∙◌, inl, inr, arith, append_assoc, ⊎_elim}
use Rattle.std.proofs.Math.Nat.{le_refl, le_trans}
use Rattle.std.proofs.lemmas.List.{append-nil}
use Rattle.std.proofs.lemmas.Bool.{cases_lt}
use Rattle.ti_lines.specs.Reader.{Gave, Rose, piece_limit}
use Rattle.ti_lines.specs.Text.{line_end}
use Rattle.ti_lines.specs.Lines.{Reading, Takes, Refills, NotAtAll, InPieces, HaltsBy}
use Rattle.ti_lines.specs.declared.lines.Halt.{Halt}
use Rattle.ti_lines.specs.declared.lines.Halt.TheVariants.{ReadFailed, NoMemory}

pub gave_nothing : {R : Type 0} (left : R → List ℕ → Type 0) (failures : R → ℕ) (a : R) → Gave left failures a a []
gave_nothing left failures a = record { tells = λ all t. record { rest = all; parts = refl; there = t }; counts = le_refl (failures a) }

pub gave_joins : {R : Type 0} (left : R → List ℕ → Type 0) (failures : R → ℕ) (a b c : R) (x y : List ℕ) → Gave left failures a b x → Gave left failures b c y → Gave left failures a c (x ++ y)
gave_joins left failures a b c x y p q = record {
  tells = λ all t.
      let u = p.tells all t in
      let v = q.tells u.rest u.there in
      record { rest = v.rest; parts = u.parts ∙ (ap (λ (l : List ℕ). x ++ l) v.parts ∙ sym (append_assoc x y v.rest)); there = v.there };
  counts = le_trans p.counts q.counts;
}

-- a new failure is one since any earlier count
pub rose_later : (a b c : ℕ) → a ≤ b → Rose b c → Rose a c
rose_later a b c le (inl lt) = inl (omega arith)
rose_later a b c le (inr last) =
    ⊎_elim
    (λ lt. inl (omega (arith, lt, last.0, last.1)))
    (λ ge. let same : a ≡ b = omega (arith, le, ge) in inr (same ∙ last.0, last.1))
    (cases_lt a b)

pub halts_later : (a b c : ℕ) (h : Halt) → a ≤ b → HaltsBy b c h → HaltsBy a c h
halts_later a b c ReadFailed le r = rose_later a b c le r
halts_later a b c NoMemory le r = tt

-- one call gives a piece
pub filled : (unread piece : List ℕ) → length piece ≤ piece_limit → line_end unread ≡ None → Refills unread piece
filled unread piece few unended = InPieces [] piece refl few (ap line_end (append-nil unread) ∙ unended)

-- a piece, and more pieces after it
refills_more : (unread middle first second : List ℕ) → middle ≡ unread ++ first → Refills unread first → Refills middle second → Refills unread (first ++ second)
refills_more unread middle first second e p (NotAtAll none) =
    subst (λ (l : List ℕ). Refills unread l) (sym (ap (λ (l : List ℕ). first ++ l) none ∙ append-nil first)) p
refills_more unread middle first second e p (InPieces before piece parts few unended) =
    InPieces (first ++ before) piece
    (ap (λ (l : List ℕ). first ++ l) parts ∙ sym (append_assoc first before piece))
    few
    (ap line_end (sym (append_assoc unread first before) ∙ ap (λ (l : List ℕ). l ++ before) (sym e)) ∙ unended)

pub takes_nothing : {R : Type 0} (left : R → List ℕ → Type 0) (failures : R → ℕ) (r : Reading) (a : R) → length r.unread ≤ r.budget + 1 → Takes left failures r a r a
takes_nothing left failures r a h = record { bytes = []; gave = gave_nothing left failures a; unread = sym (append-nil r.unread); budget = refl; bound = h; refills = NotAtAll refl }

pub takes_same : {R : Type 0} (left : R → List ℕ → Type 0) (failures : R → ℕ) (r s : Reading) (a : R) → s ≡ r → length r.unread ≤ r.budget + 1 → Takes left failures r a s a
takes_same left failures r s a e h = subst (λ (x : Reading). Takes left failures r a x a) (sym e) (takes_nothing left failures r a h)

-- the piece of one call is added
pub takes_piece : {R : Type 0} (left : R → List ℕ → Type 0) (failures : R → ℕ) (r s : Reading) (a b : R) (piece : List ℕ) → Gave left failures a b piece → s.unread ≡ r.unread ++ piece → s.budget ≡ r.budget
    → length s.unread ≤ s.budget + 1 → length piece ≤ piece_limit → line_end r.unread ≡ None → Takes left failures r a s b
takes_piece left failures r s a b piece gave unread budget bound few none = record { bytes = piece; gave = gave; unread = unread; budget = budget; bound = bound; refills = filled r.unread piece few none }

pub takes_joins : {R : Type 0} (left : R → List ℕ → Type 0) (failures : R → ℕ) (r s t : Reading) (a b c : R) → Takes left failures r a s b → Takes left failures s b t c → Takes left failures r a t c
takes_joins left failures r s t a b c p q = record {
  bytes = p.bytes ++ q.bytes;
  gave = gave_joins left failures a b c p.bytes q.bytes p.gave q.gave;
  unread = q.unread ∙ (ap (λ (l : List ℕ). l ++ q.bytes) p.unread ∙ append_assoc r.unread p.bytes q.bytes);
  budget = q.budget ∙ p.budget;
  bound = q.bound;
  refills = refills_more r.unread s.unread p.bytes q.bytes p.unread p.refills q.refills;
}
