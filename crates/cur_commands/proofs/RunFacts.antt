-- From a run on a wire that holds bytes back, or keeps them in memory, to the run over its output.
use Rattle.std.proofs.Common.{◌≡◌, ℕ, Bool, List, [], ◌++◌, Option, None, Some, refl, sym, ap, subst, ◌∙◌, arith}
use Rattle.std.specs.Borrow.{MutBor}
use Rattle.std.specs.Io.KnownBytes.{Appends, append_known}
use Rattle.std.proofs.lemmas.List.{append-nil}
use Rattle.vt_term.specs.Screen.{reset}
use Rattle.vt_term.specs.Run.{Runs}
use Rattle.ti_conforms.specs.Certified.{Table, IsChecked}
use Rattle.cur_scripts.specs.declared.calls.Call.{Call}
use Rattle.cur_paint.proofs.Starts.{reset_fresh}
use Rattle.cur_play.proofs.Failures.{none_rose}
use Rattle.cur_play.proofs.Wires.{Follows, ran_further, ran_over, ran_taken, ran_through}
use Rattle.cur_play.specs.Log.{Ran, paced_subject_of, subject_of}
use Rattle.cur_play.specs.declared.runs.LogEntry.{LogEntry}
use Rattle.cur_commands.specs.Held.{Holds, HoldsOf, holds_lawful}
use Rattle.cur_commands.specs.Shows.{IsTaken}
use Rattle.cur_commands.specs.Stores.{StoresOf}
use Rattle.cur_commands.specs.Through.{AreThrough, unfailing}

pub through : (t : Table) (partners : ℕ → Option ℕ) (old new : Option (List ℕ)) (calls : List Call) (log : List LogEntry) → Ran (unfailing t partners) old new calls log → AreThrough log
through t partners old new calls log r = ran_through (unfailing t partners) (λ a b rose. none_rose 0 0 refl rose) old new calls log r

-- ---- bytes that are held back

bare : (known : Option (List ℕ)) (held : List ℕ) → held ≡ [] → append_known known held ≡ known
bare None held e = refl
bare (Some xs) held e = ap (λ (l : List ℕ). Some (xs ++ l)) e ∙ ap (λ (l : List ℕ). Some l) (append-nil xs)

held_follows : {O C : Type 0} (contents : O → Option (List ℕ)) (has_failed : O → Bool) (output : C → MutBor O) (held : C → List ℕ) (failures : C → ℕ)
    → Follows (HoldsOf contents has_failed output held failures) failures Appends (λ known. 0) (λ w. append_known (contents (output w).now) (held w)) (λ w. failures w ≡ 0)
held_follows contents has_failed output held failures = record {
  sooner = λ a b x h none. (let risen = h.risen in omega (arith, risen, none));
  goes = λ a b x h none. h.grows none;
  rises = λ a b none rose. absurd (none_rose (failures a) (failures b) none rose);
}

-- after a run without a failure, the bytes that are left are handed on
pub held_over : {O C : Type 0} (contents : O → Option (List ℕ)) (has_failed : O → Bool) (output : C → MutBor O) (held : C → List ℕ) (failures : C → ℕ) (t : Table) (partners : ℕ → Option ℕ) (a b c : C) (calls : List Call) (log : List LogEntry)
    → Ran (paced_subject_of (HoldsOf contents has_failed output held failures) failures held t partners) a b calls log → Holds contents has_failed (output b) (output c) (held b) (held c) (failures b) (failures c) []
    → failures c ≡ 0 → held a ≡ [] → held c ≡ [] → Ran (unfailing t partners) (contents (output a).now) (contents (output c).now) calls log
held_over {O} {C} contents has_failed output held failures t partners a b c calls log r passed none first last =
    let went : C → C → List ℕ → Type 0 = HoldsOf contents has_failed output held failures in
    let f : C → Option (List ℕ) = λ w. append_known (contents (output w).now) (held w) in
    let whole : Ran (paced_subject_of went failures held t partners) a c calls log = ran_further (paced_subject_of went failures held t partners) (holds_lawful contents has_failed output held failures) a b c calls log r passed in
    let over : Ran (unfailing t partners) (f a) (f c) calls log =
    ran_over went failures (λ w. held w ≡ []) Appends (λ known. 0) f (λ w. failures w ≡ 0) (held_follows contents has_failed output held failures) t partners a c calls log whole none in
    let P : Option (List ℕ) → Type 0 = λ x. Ran (unfailing t partners) x (f c) calls log in
    let Q : Option (List ℕ) → Type 0 = λ x. Ran (unfailing t partners) (contents (output a).now) x calls log in
    subst Q (bare (contents (output c).now) (held c) last) (subst P (bare (contents (output a).now) (held a) first) over)

-- ---- bytes in memory

taken_follows : {C : Type 0} (taken : C → List ℕ) (failures : C → ℕ) → Follows (StoresOf taken failures) failures Appends (λ known. 0) (λ w. Some (taken w)) (λ w. failures w ≡ 0)
taken_follows taken failures = record {
  sooner = λ a b x h none. (let risen = h.risen in omega (arith, risen, none));
  goes = λ a b x h none. h.grows;
  rises = λ a b none rose. absurd (none_rose (failures a) (failures b) none rose);
}

pub taken_over : {C : Type 0} (taken : C → List ℕ) (failures : C → ℕ) (t : Table) (partners : ℕ → Option ℕ) (a b : C) (calls : List Call) (log : List LogEntry)
    → Ran (subject_of (StoresOf taken failures) failures t partners) a b calls log → failures b ≡ 0 → Ran (unfailing t partners) (Some (taken a)) (Some (taken b)) calls log
taken_over taken failures t partners a b calls log r none =
    ran_over (StoresOf taken failures) failures (λ w. Unit {0}) Appends (λ known. 0) (λ w. Some (taken w)) (λ w. failures w ≡ 0) (taken_follows taken failures) t partners a b calls log r none

-- a terminal in its reset state takes all that a run has sent
pub run_taken : (t : Table) (partners : ℕ → Option ℕ) → IsChecked t → (rows cols : ℕ) → rows ≡ t.rows → cols ≡ t.cols → (before bytes slice : List ℕ) (calls : List Call) (log : List LogEntry)
    → Ran (unfailing t partners) (Some before) (Some bytes) calls log → before ≡ [] → slice ≡ bytes → IsTaken rows cols slice
run_taken t partners checked rows cols high wide before bytes slice calls log r none same =
    let x = ran_taken (unfailing t partners) (Some before) (Some bytes) calls log r (reset t.rows t.cols) (reset_fresh t checked) in
    let all : r.bytes ≡ slice = sym (same ∙ r.sent ∙ ap (λ (l : List ℕ). l ++ r.bytes) none) in
    let P : List ℕ → Type 0 = λ l. Runs (reset t.rows t.cols) l x.after in
    let H : ℕ → Type 0 = λ n. Runs (reset n t.cols) slice x.after in
    let W : ℕ → Type 0 = λ n. Runs (reset rows n) slice x.after in
    record { after = x.after; runs = subst W (sym wide) (subst H (sym high) (subst P all x.runs)) }
