-- Cells printed once more, and the columns between.
use Rattle.std.proofs.Common.{◌≡◌, ℕ, ◌+◌, ◌<◌, subst, inl, inr, arith}
use Rattle.std.proofs.lemmas.Bool.Decides.{nat_tests}
use Rattle.std.proofs.lemmas.Bool.{cases_lt}
use Rattle.vt_term.specs.Screen.{State}
use Rattle.ti_conforms.specs.Certified.{Table}
use Rattle.cur_steps.specs.Inks.{put_at}
use Rattle.cur_steps.specs.Beliefs.{Agrees}
use Rattle.cur_steps.specs.declared.beliefs.Belief.{Belief}
use Rattle.cur_steps.specs.Gaps.{IsAlike}
use Rattle.cur_steps.specs.declared.inks.Ink.{Ink}

put_same : (h : ℕ → ℕ → Ink) (r c i j : ℕ) (x : Ink) → h r c ≡ x → put_at r c x h i j ≡ h i j
put_same h r c i j x e = grind (arith, nat_tests)

-- a cell printed once more is as before
pub reprinted : (t : Table) (h : ℕ → ℕ → Ink) (b : Belief) (r c : ℕ) (x : Ink) → h r c ≡ x → (s : State) → Agrees t (put_at r c x h) b s → Agrees t h b s
reprinted t h b r c x e s a = record {
  ready = a.ready;
  cells = λ i j li lj. rw (← put_same h r c i j x e) (a.cells i j li lj);
  place = a.place;
  brush = a.brush;
  colored = a.colored;
  set = a.set;
  seen = a.seen;
}

-- one more cell
pub alike_more : (b : Belief) (f : ℕ → Ink) (n : ℕ) → ((k : ℕ) → k < n → IsAlike b (f k)) → IsAlike b (f n) → (k : ℕ) → k < n + 1 → IsAlike b (f k)
alike_more b f n before last k lt = elim (cases_lt k n) [
  | inl less ↦ before k less
  | inr more ↦ (let same : n ≡ k = omega (arith, lt, more) in subst (λ (m : ℕ). IsAlike b (f m)) same last)
]
