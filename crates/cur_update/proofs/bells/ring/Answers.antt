use Rattle.std.proofs.Common.{◌≡◌, Bool, true, false, ◌++◌, refl, sym, ◌∙◌}
use Rattle.cur_paint.specs.declared.updates.Status.{Status}
use Rattle.cur_paint.specs.declared.updates.Status.TheVariants.{Lost}
use Rattle.cur_paint.specs.Rests.{rested}
use Rattle.cur_update.proofs.BellFacts.{rung_fits, rung_short}
use Rattle.cur_paint.proofs.UpdateFacts.{front_of_front}
use Rattle.cur_update.proofs.bells.ring.Goals as goal

not_both : true ≡ false → ⊥
not_both e = cc

not_lost : (status : Status) (lost : Bool) → (status ≡ Lost → lost ≡ true) → lost ≡ false → status ≡ Lost → ⊥
not_lost status lost only isnt e = not_both (sym (only e) ∙ isnt)

pub returns-in-Ok : goal.returns-in-Ok
returns-in-Ok g c =
    let t = g.C.Certificate.table c.args.checked.now in
    let before = c.args.session.now in
    let some = not_lost before.status _ c.is_lost.ensures.only c.if-is_lost.false in
    record {
      rings = record {
        line = c.in-Some.line.now;
        is = c.in-Some.ensures.value;
        sent = c.in-Ok.ensures.sends;
        same = refl;
        held = some;
        fits = rung_fits t c.rows.ensures.checked c.in-Some.line.now c.in-Some.ensures.value before.status some (rested before.cursor);
        cut = λ x y e. rung_short t c.rows.ensures.checked c.in-Some.line.now c.in-Some.ensures.value before.status some (rested before.cursor) x y e;
      };
    }

pub returns-in-Err : goal.returns-in-Err
returns-in-Err g c =
    let t = g.C.Certificate.table c.args.checked.now in
    let before = c.args.session.now in
    let some = not_lost before.status _ c.is_lost.ensures.only c.if-is_lost.false in
    let stops = c.in-Err.ensures.sends in
    record {
      rings = record {
        line = c.in-Some.line.now;
        is = c.in-Some.ensures.value;
        stops = stops;
        held = some;
        fits = rung_short t c.rows.ensures.checked c.in-Some.line.now c.in-Some.ensures.value before.status some (rested before.cursor) stops.front stops.back stops.parts;
        cut = λ x y e. rung_short t c.rows.ensures.checked c.in-Some.line.now c.in-Some.ensures.value before.status some (rested before.cursor) x (y ++ stops.back)
            (front_of_front c.in-Some.line.now stops.front stops.back x y stops.parts e);
        lost = refl;
      };
    }
