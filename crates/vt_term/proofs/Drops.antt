-- A sequence that is cut off has no effect.
use Rattle.std.proofs.Common.{◌≡◌, ℕ, ◌-◌, ◌==◌, ◌<◌, ◌⊎◌, ◌&&◌, Bool, true, false, List, [], ◌∷◌, length, take, refl, sym, ap, subst, ◌∙◌, inl, inr, arith, zero, suc, Option, if◌then◌else◌}
use Rattle.std.proofs.lemmas.Bool.Decides.{nat_tests}
use Rattle.std.specs.List.{AllByRecursion, list_all, slice_index}
use Rattle.vt_term.specs.Parameters.{numbers, is_numeral}
use Rattle.vt_screen.specs.Screen.{Screen}
use Rattle.vt_screen.specs.Step.{act}
use Rattle.vt_screen.specs.declared.functions.Function.{Function}
use Rattle.vt_screen.specs.declared.functions.Function.TheVariants.{Ignored}
use Rattle.vt_term.specs.Function.{CodeElement, G0, G1, counted, single, counting, of_one_number, of_numbers, of_private_numbers, marked, named, sequence, designation, escaped, function_of}
use Rattle.vt_term.specs.Run.{Runs}
use Rattle.vt_term.specs.Screen.{State}
use Rattle.vt_term.specs.Step.{step}
use Rattle.vt_term.specs.Text.{IsIntermediate, IsOpen}
use Rattle.vt_term.proofs.Sequences.{IsBody, inside, stem, middle, open_escape}
use Rattle.vt_term.proofs.Splits.{restarts, cancels}

ne : (f k : ℕ) → f < k → (f == k) ≡ false
ne f k h = grind (arith, nat_tests)

either_ignored : (c : Bool) (x y : Function) → x ≡ Ignored → y ≡ Ignored → (if c then x else y) ≡ Ignored
either_ignored true x y h k = h
either_ignored false x y h k = k

-- no function has a final byte below 64
low_counting : (f n : ℕ) → f < 64 → counting f n ≡ Ignored
low_counting f n h = rw (
  ne f 64 (omega arith),
  ne f 65 (omega arith),
  ne f 66 (omega arith),
  ne f 67 (omega arith),
  ne f 68 (omega arith),
  ne f 71 (omega arith),
  ne f 76 (omega arith),
  ne f 77 (omega arith),
  ne f 80 (omega arith),
  ne f 83 (omega arith),
  ne f 84 (omega arith),
  ne f 88 (omega arith),
  ne f 100 (omega arith),
) refl

low_of_one : (f : ℕ) (ns : List (Option ℕ)) → f < 64 → of_one_number f ns ≡ Ignored
low_of_one f [] h = refl
low_of_one f (n ∷ []) h = rw (ne f 74 (omega arith), ne f 75 (omega arith)) (low_counting f (counted n) h)
low_of_one f (n ∷ m ∷ ns) h = refl

low_of_numbers : (f : ℕ) (ns : List (Option ℕ)) → f < 64 → of_numbers f ns ≡ Ignored
low_of_numbers f ns h = rw (ne f 72 (omega arith), ne f 102 (omega arith), ne f 114 (omega arith), ne f 109 (omega arith), ne f 104 (omega arith), ne f 108 (omega arith)) (low_of_one f ns h)

low_private : (f : ℕ) (ns : List (Option ℕ)) → f < 64 → of_private_numbers f ns ≡ Ignored
low_private f ns h = rw (ne f 104 (omega arith), ne f 108 (omega arith)) refl

low_marked : (f : ℕ) (front : List ℕ) → f < 64 → marked f front ≡ Ignored
low_marked f [] h = refl
low_marked f (b ∷ bytes) h = either_ignored ((b == 63) && list_all is_numeral bytes) (of_private_numbers f (numbers bytes)) Ignored (low_private f (numbers bytes) h) refl

low_named : (f : ℕ) (front : List ℕ) → f < 64 → named f front ≡ Ignored
low_named f front h = either_ignored (list_all is_numeral front) (of_numbers f (numbers front)) (marked f front) (low_of_numbers f (numbers front) h) (low_marked f front h)

low_at : (xs : List ℕ) (k : ℕ) → AllByRecursion (λ b. b < 64) xs → slice_index xs k < 64
low_at [] k h = omega arith
low_at (x ∷ xs) zero h = h.0
low_at (x ∷ xs) (suc k) h = low_at xs k h.1

body_ignored : (body : List ℕ) → IsBody body → sequence body ≡ Ignored
body_ignored body h = low_named (slice_index body (length body - 1)) (take (length body - 1) body)
    (low_at body (length body - 1) (subst (AllByRecursion (λ b. b < 64)) (sym h.spelled) (middle h.parameters h.intermediates h.each_parameter h.each_intermediate)))

low_designation : (g : CodeElement) (f : ℕ) → f < 48 → designation g f ≡ Ignored
low_designation g f h = rw (ne f 48 h, ne f 66 (omega arith)) refl

stem_ignored : (y : ℕ) (body : List ℕ) → AllByRecursion IsIntermediate (y ∷ body) → escaped (y ∷ body) ≡ Ignored
stem_ignored y [] h = rw (ne y 68 (omega (arith, h.0.1)), ne y 69 (omega (arith, h.0.1)), ne y 77 (omega (arith, h.0.1))) refl
stem_ignored y (f ∷ []) h = either_ignored (y == 40) (designation G0 f) _ (low_designation G0 f (omega (arith, h.1.0.1)))
    (either_ignored (y == 41) (designation G1 f) Ignored (low_designation G1 f (omega (arith, h.1.0.1))) refl)
stem_ignored y (f ∷ g ∷ body) h = refl

by_second : (y : ℕ) (x z : Function) → (y ≡ 91 → x ≡ Ignored) → ((y ≡ 91 → ⊥) → z ≡ Ignored) → (if y == 91 then x else z) ≡ Ignored
by_second y x z h k = chosen (y == 91) (λ e. h (grind (arith, nat_tests))) (λ e. k (λ same. grind (arith, nat_tests)))
  where
    chosen : (c : Bool) → (c ≡ true → x ≡ Ignored) → (c ≡ false → z ≡ Ignored) → (if c then x else z) ≡ Ignored
    chosen true h k = h refl
    chosen false h k = k refl

pub open_ignored : (bytes : List ℕ) → IsOpen bytes → function_of bytes ≡ Ignored
open_ignored [] o = refl
open_ignored (b ∷ []) o = ap single (open_escape b [] o)
open_ignored (x ∷ y ∷ body) o = by_second y (sequence body) (escaped (y ∷ body)) (λ e. body_ignored body (inside x y body e o).body) (λ n. stem_ignored y body (stem x y body n o).each)

step_open : (bytes : List ℕ) (s : Screen) → IsOpen bytes → step bytes s ≡ s
step_open bytes s o = ap (λ (f : Function). act f s) (open_ignored bytes o)

step_cancel : (b : ℕ) (s : Screen) → (b ≡ 24) ⊎ (b ≡ 26) → step (b ∷ []) s ≡ s
step_cancel b s (inl e) = ap (λ (x : ℕ). act (single x) s) e
step_cancel b s (inr e) = ap (λ (x : ℕ). act (single x) s) e

-- a byte that cuts off an open sequence
pub restart_runs : (s : State) (b : ℕ) → IsOpen s.rest → 0 < length s.rest → b ≡ 27 → Runs s (b ∷ []) (record s { rest = b ∷ [] })
restart_runs s b o some e = record { tokens = s.rest ∷ []; splits = restarts s.rest b o some e; screen = sym (step_open s.rest s.screen o) }

pub cancel_runs : (s : State) (b : ℕ) → IsOpen s.rest → 0 < length s.rest → (b ≡ 24) ⊎ (b ≡ 26) → Runs s (b ∷ []) (record s { rest = [] })
cancel_runs s b o some e = record {
  tokens = s.rest ∷ (b ∷ []) ∷ [];
  splits = cancels s.rest b o some e;
  screen = sym (step_cancel b (step s.rest s.screen) e ∙ step_open s.rest s.screen o);
}
