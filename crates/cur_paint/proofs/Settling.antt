-- The end of a refresh, after other steps of the painter.
use Rattle.std.proofs.Common.{◌≡◌, false, ℕ, ◌+◌, ◌≤◌, List, Option, Some, Result, Ok, Err, inr, subst, ap, ◌∙◌}
use Rattle.std.specs.Prelude.{OnOk}
use Rattle.cur_steps.specs.Wire.{IsWire}
use Rattle.ti_conforms.specs.Certified.{Table, IsChecked}
use Rattle.cur_steps.specs.Beliefs.{Agrees}
use Rattle.cur_steps.specs.Steps.{Acts}
use Rattle.cur_steps.specs.declared.beliefs.Belief.{Belief}
use Rattle.cur_steps.specs.declared.beliefs.Mode.{Mode}
use Rattle.cur_steps.specs.declared.inks.Ink.{Ink}
use Rattle.cur_steps.proofs.Actions.{agrees_lost}
use Rattle.cur_paint.specs.Differ.{all_differ}
use Rattle.cur_paint.specs.Rests.{IsAt, IsRested, IsSet}
use Rattle.cur_paint.specs.Scenes.{Ends, IsSame, Scene, Sets, scene}
use Rattle.cur_paint.specs.declared.painters.Painter.{Painter}
use Rattle.cur_paint.specs.declared.updates.Status.TheVariants.{Known}
use Rattle.cur_paint.specs.declared.updates.Wanted.{Wanted}
use Rattle.cur_paint.specs.Limits.{IsPlaced, IsWithin, paint_limit}
use Rattle.cur_paint.specs.Update.{Draws}
use Rattle.cur_paint.proofs.Bounds.{none_due}
use Rattle.cur_paint.proofs.Mixtures.{agrees_as, all_same}
use Rattle.cur_paint.proofs.ModeFacts.{sets_after, sets_cut, sets_nothing, sets_wider}
use Rattle.cur_paint.proofs.Painting.{same_then}
use Rattle.cur_paint.proofs.Renewals.{draws_sets}

-- other steps first
pub ends_after : {C O N W T E U F : Type 0} {table : C → Table} {old : O → ℕ → ℕ → Ink} {new : N → ℕ → ℕ → Ink} {went : W → W → List ℕ → Type 0} {failures : W → ℕ} {a b c : Painter C O N W} {v : U} {answer : Result T E} {j : ℕ} {k limit : Scene → ℕ} {f g : Scene → ℕ → ℕ → Ink} {w : Wanted}
    → IsWire went failures → (let s = scene table old new a.screens.now in Acts {T = U} {E = F} went failures a.pen.now.wire b.pen.now.wire (Ok v) s.table j (f s) (g s) a.pen.now.belief b.pen.now.belief)
    → b.pen.now.belief.mode ≡ a.pen.now.belief.mode → IsSame a b → Ends table old new went failures b c answer k g w
    → j + k (scene table old new a.screens.now) ≤ limit (scene table old new a.screens.now)
    → Ends table old new went failures a c answer limit f w
ends_after {table} {old} {new} {went} {failures} {a} {b} {c} {v} {answer} {j} {k} {limit} {f} {g} {w} laws first mode same last le =
    let s : Scene = scene table old new a.screens.now in
    let t : Table = s.table in
    let here : Sets went failures b.pen.now.wire c.pen.now.wire answer t (k s) b.pen.now.belief.mode w.cursor w.mode (Agrees t (g s) b.pen.now.belief) (Agrees t s.new c.pen.now.belief) =
    subst (λ x. (let z = scene table old new x.now in Sets went failures b.pen.now.wire c.pen.now.wire answer z.table (k z) b.pen.now.belief.mode w.cursor w.mode (Agrees z.table (g z) b.pen.now.belief) (Agrees z.table z.new c.pen.now.belief))) same.screens last.step in
    let step : Sets went failures b.pen.now.wire c.pen.now.wire answer t (k s) a.pen.now.belief.mode w.cursor w.mode (Agrees t (g s) b.pen.now.belief) (Agrees t s.new c.pen.now.belief) =
    subst (λ (o : Option Mode). Sets went failures b.pen.now.wire c.pen.now.wire answer t (k s) o w.cursor w.mode (Agrees t (g s) b.pen.now.belief) (Agrees t s.new c.pen.now.belief)) mode here in
    record {
      step = sets_after went failures laws a.pen.now.wire b.pen.now.wire c.pen.now.wire v answer t j (k s) (limit s) a.pen.now.belief.mode w.cursor w.mode (Agrees t (f s) a.pen.now.belief) (Agrees t (g s) b.pen.now.belief) (Agrees t s.new c.pen.now.belief) le first step;
      set = last.set;
      same = same_then a b c same last.same;
    }

-- they were cut short
pub ends_cut : {C O N W T E F : Type 0} {table : C → Table} {old : O → ℕ → ℕ → Ink} {new : N → ℕ → ℕ → Ink} {went : W → W → List ℕ → Type 0} {failures : W → ℕ} {a b : Painter C O N W} {v : E} {u : F} {j : ℕ} {limit : Scene → ℕ} {f : Scene → ℕ → ℕ → Ink} {w : Wanted} (h : ℕ → ℕ → Ink)
    → (let s = scene table old new a.screens.now in Acts {T = T} {E = E} went failures a.pen.now.wire b.pen.now.wire (Err v) s.table j (f s) h a.pen.now.belief b.pen.now.belief)
    → IsSame a b → j ≤ limit (scene table old new a.screens.now) → Ends {T = T} {E = F} table old new went failures a b (Err u) limit f w
ends_cut {table} {old} {new} {went} {failures} {a} {b} {v} {u} {j} {limit} {f} {w} h first same le =
    let s : Scene = scene table old new a.screens.now in
    let t : Table = s.table in
    record {
      step = sets_cut went failures a.pen.now.wire b.pen.now.wire v u t j (limit s) a.pen.now.belief.mode w.cursor w.mode (Agrees t (f s) a.pen.now.belief) (Agrees t h b.pen.now.belief) (Agrees t s.new b.pen.now.belief) le first;
      set = tt;
      same = same;
    }

-- at rest, and then with the cursor's mode and place
pub now_set : {T E : Type 0} (answer : Result T E) (w : Wanted) (a b c : Belief) → IsRested a → b ≡ record a { mode = Some w.mode } → OnOk answer (IsAt w.cursor c.place) → OnOk answer (c ≡ record b { place = c.place }) → OnOk answer (IsSet w c)
now_set (Ok v) w a b c rested shown at e = record {
  at = at;
  rested = record {
    brush = ap (λ (x : Belief). x.brush) e ∙ ap (λ (x : Belief). x.brush) shown ∙ rested.brush;
    set = ap (λ (x : Belief). x.graphic) e ∙ ap (λ (x : Belief). x.graphic) shown ∙ rested.set;
  };
  mode = ap (λ (x : Belief). x.mode) e ∙ ap (λ (x : Belief). x.mode) shown;
}
now_set (Err v) w a b c rested shown at e = tt

-- a known screen is mended so, within the bound of a refresh
pub draws_ends : {C O N W T E : Type 0} {table : C → Table} {old : O → ℕ → ℕ → Ink} {new : N → ℕ → ℕ → Ink} {went : W → W → List ℕ → Type 0} {failures : W → ℕ} {a c : Painter C O N W} {answer : Result T E} {limit : Scene → ℕ} {w : Wanted}
    → Ends table old new went failures a c answer limit (λ s. s.old) w
    → (let s = scene table old new a.screens.now in limit s ≤ paint_limit s.table s.old s.new a.pen.now.belief w.cursor w.mode) → IsWithin (table a.screens.now.checked.now) w.cursor
    → (let s = scene table old new a.screens.now in Draws went failures a.pen.now.wire c.pen.now.wire answer s.table s.old s.new (record w { clear = false }) Known a.pen.now.belief c.pen.now.belief)
draws_ends {table} {old} {new} {went} {failures} {a} {c} {answer} {limit} {w} ends le within =
    let s : Scene = scene table old new a.screens.now in
    let t : Table = s.table in
    let b = a.pen.now.belief in
    draws_sets w
    (sets_wider went failures a.pen.now.wire c.pen.now.wire answer t (limit s) (paint_limit t s.old s.new b w.cursor w.mode) b.mode w.cursor w.mode (Agrees t s.old b) (Agrees t s.new c.pen.now.belief) le ends.step) within ends.set

-- nothing differs, and the cursor is as wanted: nothing is sent
pub draws_still : {W E : Type 0} {went : W → W → List ℕ → Type 0} {failures : W → ℕ} {a : W} {t : Table} {old new : ℕ → ℕ → Ink} {b : Belief} (w : Wanted)
    → IsWire went failures → IsChecked t → all_differ old new t.cols t.rows ≡ 0 → IsPlaced t.cols w.cursor b.place → b.mode ≡ Some w.mode → IsRested b
    → Draws {T = Unit {0}} {E = E} went failures a a (Ok tt) t old new (record w { clear = false }) Known b b
draws_still {W} {E} {went} {failures} {a} {t} {old} {new} {b} w laws checked none there mode rested =
    let sets = sets_nothing went failures laws a tt t (paint_limit t old new b w.cursor w.mode) b.mode w.cursor w.mode (Agrees t old b) (Agrees t new b)
    mode (λ s x. x.ready.rest) (agrees_as t old new b (all_same old new t.cols t.rows none)) (agrees_lost t checked old b) in
    record { step = sets.step; begins = tt; there = there; at = inr (none_due t old new b w.cursor w.mode none there mode); rested = rested; mode = mode; quiet = sets.quiet }
