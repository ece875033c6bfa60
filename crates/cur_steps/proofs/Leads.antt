-- Bytes that lead from kind to kind, one after another.
use Rattle.std.proofs.Common.{◌≡◌, ℕ, ◌+◌, ◌≤◌, List, [], ◌∷◌, ◌++◌, length, refl, sym, ap, subst, ◌∙◌, arith, append_assoc, length-append}
use Rattle.std.proofs.lemmas.List.{append-nil}
use Rattle.std.specs.List.{AllByRecursion, concat}
use Rattle.vt_term.specs.Screen.{State, IsOfSize}
use Rattle.vt_term.specs.Run.{Runs, RunsCut}
use Rattle.vt_term.specs.Text.{IsOpen}
use Rattle.vt_term.proofs.Sequences.{empty_open}
use Rattle.vt_term.proofs.Splits.{compare, Longer, Shorter}
use Rattle.vt_term.proofs.Runs.{runs_append, runs_nothing, runs_cut, run_keeps}
use Rattle.cur_steps.specs.Leads.{Leads, Meets, Within, Past}
use Rattle.vt_term.specs.Ends.{Ends}

pub concat-append : (xs ys : List (List ℕ)) → concat (xs ++ ys) ≡ concat xs ++ concat ys
concat-append [] ys = refl
concat-append (x ∷ xs) ys = ap (λ (l : List ℕ). x ++ l) (concat-append xs ys) ∙ sym (append_assoc x (concat xs) (concat ys))

pub all_append : (P : List ℕ → Type 0) (xs ys : List (List ℕ)) → AllByRecursion P xs → AllByRecursion P ys → AllByRecursion P (xs ++ ys)
all_append P [] ys h k = k
all_append P (x ∷ xs) ys h k = (h.0, all_append P xs ys h.1 k)

pub ends_then : (A B : State → Type 0) (s : State) (x y : List ℕ) → Ends s x A → ((t : State) → A t → Ends t y B) → Ends s (x ++ y) B
ends_then A B s x y e f = let g = f e.after e.there in record { after = g.after; runs = runs_append s e.after g.after x y e.runs g.runs; there = g.there }

pub meet : (a b c d : List ℕ) → a ++ b ≡ c ++ d → Meets a b c d
meet a b c d e = elim (compare a b c d e) [
  | Longer x p q ↦ Past x p q
  | Shorter x p q ↦ Within x p q
]

-- one text, and then another
pub leads_then : (P : List ℕ → Type 0) (m n : ℕ) (D A B C : State → Type 0) (x y : List ℕ) → Leads P m D A x B → Leads P n D B y C → Leads P (m + n) D A (x ++ y) C
leads_then P m n D A B C x y h k = record {
  pieces = h.pieces ++ k.pieces;
  made = ap (λ (l : List ℕ). l ++ y) h.made ∙ ap (λ (l : List ℕ). concat h.pieces ++ l) k.made ∙ sym (concat-append h.pieces k.pieces);
  each = all_append P h.pieces k.pieces h.each k.each;
  bound = omega (arith, h.bound, k.bound, length-append x y);
  ends = λ s a. ends_then B C s x y (h.ends s a) k.ends;
  cut = λ front back e s a. elim (meet x y front back e) [
    | Within more p q ↦ h.cut front more p s a
    | Past more p q ↦ subst (λ (l : List ℕ). Ends s l D) (sym p) (ends_then B D s x more (h.ends s a) (k.cut more back q))
  ];
}

-- bytes from a narrower kind to a wider one, under a greater limit
pub leads_wider : (P : List ℕ → Type 0) (m n : ℕ) (D A B E F : State → Type 0) (x : List ℕ) → m ≤ n → ((s : State) → E s → A s) → ((s : State) → B s → F s)
    → Leads P m D A x B → Leads P n D E x F
leads_wider P m n D A B E F x le f g h = record {
  pieces = h.pieces;
  made = h.made;
  each = h.each;
  bound = omega (arith, h.bound);
  ends = λ s a. (let e = h.ends s (f s a) in record { after = e.after; runs = e.runs; there = g e.after e.there });
  cut = λ front back e s a. h.cut front back e s (f s a);
}

-- a prefix of bytes that run from a state of a size leaves a state of that size
pub cut_sized : (rows cols : ℕ) (B : State → Type 0) (bytes front back : List ℕ) → bytes ≡ front ++ back → (s : State) → IsOfSize rows cols s → Ends s bytes B → Ends s front (IsOfSize rows cols)
cut_sized rows cols B bytes front back e s h k =
    let r : RunsCut s front back k.after = runs_cut s k.after front back (subst (λ (l : List ℕ). Runs s l k.after) e k.runs) in
    record { after = r.between; runs = r.runs_first; there = run_keeps rows cols s r.between front h r.runs_first }

-- one piece
pub leads_piece : (P : List ℕ → Type 0) (n rows cols : ℕ) (A B : State → Type 0) (x : List ℕ) → P x → length x ≤ n → ((s : State) → A s → IsOfSize rows cols s)
    → ((s : State) → A s → Ends s x B) → Leads P n (IsOfSize rows cols) A x B
leads_piece P n rows cols A B x p le sized h = record {
  pieces = x ∷ [];
  made = sym (append-nil x);
  each = (p, tt);
  bound = le;
  ends = h;
  cut = λ front back e s a. cut_sized rows cols B x front back e s (sized s a) (h s a);
}

-- no bytes
pub leads_nothing : (P : List ℕ → Type 0) (n rows cols : ℕ) (A B : State → Type 0) → ((s : State) → A s → IsOfSize rows cols s) → ((s : State) → A s → s.rest ≡ [])
    → ((s : State) → A s → B s) → Leads P n (IsOfSize rows cols) A [] B
leads_nothing P n rows cols A B sized rest h =
    let ends : (s : State) → A s → Ends s [] B =
    (λ s a. record { after = s; runs = runs_nothing s (subst IsOpen (sym (rest s a)) empty_open); there = h s a }) in
    record {
      pieces = [];
      made = refl;
      each = tt;
      bound = omega arith;
      ends = ends;
      cut = λ front back e s a. cut_sized rows cols B [] front back e s (sized s a) (ends s a);
    }
