-- Runs of a new terminal that end alike, or not.
use Rattle.std.proofs.Common.{◌≡◌, ◌↔◌, ℕ, Bool, true, false, List, IsTrue, subst}
use Rattle.vt_term.specs.Run.{Runs, Sticks}
use Rattle.vt_term.specs.Screen.{State}
use Rattle.ti_advice.specs.Runs.{fresh, SeenAlike, EndsAlike, EndsUnlike, Elsewhere, StuckThere, DoAlike, Alike, DoUnlike, Unlike, Sticking}

pub ends_same : (state before end : State) (bytes : List ℕ) (so : Bool) → before ≡ fresh → Runs before bytes end → (IsTrue so ↔ SeenAlike state end) → so ≡ true → EndsAlike state bytes
ends_same state before end bytes so is runs seen e =
    record { end = end; runs = subst (λ (s : State). Runs s bytes end) is runs; seen = seen.0 e }

pub ends_elsewhere : (state before end : State) (bytes : List ℕ) (so : Bool) → before ≡ fresh → Runs before bytes end → (IsTrue so ↔ SeenAlike state end) → so ≡ false → EndsUnlike state bytes
ends_elsewhere state before end bytes so is runs seen e =
    Elsewhere end (subst (λ (s : State). Runs s bytes end) is runs) (λ alike. let yes : so ≡ true = seen.1 alike in absurd cc)

pub ends_stuck : (state before end : State) (bytes : List ℕ) (at : ℕ) → before ≡ fresh → Sticks before bytes at end → EndsUnlike state bytes
ends_stuck state before end bytes at is sticks = StuckThere at end (subst (λ (s : State). Sticks s bytes at end) is sticks)

pub alike_from : (before end : State) (bytes other : List ℕ) → before ≡ fresh → Runs before bytes end → EndsAlike end other → DoAlike bytes other
alike_from before end bytes other is runs ends = Alike end (subst (λ (s : State). Runs s bytes end) is runs) ends

pub unlike_from : (before end : State) (bytes other : List ℕ) → before ≡ fresh → Runs before bytes end → EndsUnlike end other → DoUnlike bytes other
unlike_from before end bytes other is runs ends = Unlike end (subst (λ (s : State). Runs s bytes end) is runs) ends

pub unlike_stuck : (before end : State) (bytes other : List ℕ) (at : ℕ) → before ≡ fresh → Sticks before bytes at end → DoUnlike bytes other
unlike_stuck before end bytes other at is sticks = Sticking at end (subst (λ (s : State). Sticks s bytes at end) is sticks)

-- ---- bytes with other names

pub alike_of : (bytes own other meant : List ℕ) → bytes ≡ own → other ≡ meant → DoAlike bytes other → DoAlike own meant
alike_of bytes own other meant is are alike = subst (λ (o : List ℕ). DoAlike own o) are (subst (λ (b : List ℕ). DoAlike b other) is alike)

pub unlike_of : (bytes own other meant : List ℕ) → bytes ≡ own → other ≡ meant → DoUnlike bytes other → DoUnlike own meant
unlike_of bytes own other meant is are unlike = subst (λ (o : List ℕ). DoUnlike own o) are (subst (λ (b : List ℕ). DoUnlike b other) is unlike)
