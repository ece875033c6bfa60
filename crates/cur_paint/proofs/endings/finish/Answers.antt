use Rattle.std.proofs.lemmas.Result.{err_from_is_err_and}
use Rattle.std.proofs.Common.{refl, ◌++◌}
use Rattle.cur_paint.specs.Finish.{finish_text}
use Rattle.cur_paint.specs.Rests.{rested}
use Rattle.cur_paint.proofs.UpdateFacts.{front_of_front}
use Rattle.cur_paint.proofs.EndingFacts.{finish_leads}
use Rattle.cur_paint.proofs.endings.finish.Goals as goal

pub returns-in_err-send_finish : goal.returns-in_err-send_finish
returns-in_err-send_finish g c =
    let e = err_from_is_err_and c.from_residual.result c.from_residual.ensures.1 in
    let t = g.C.Certificate.table c.args.checked.now in
    let before = c.args.session.now in
    let stops = c.in_err-send_finish.ensures.sends in
    rw e.1 (record {
      finishes = record {
        front = stops.front;
        back = stops.back;
        parts = stops.parts;
        sent = stops.sent;
        failed = stops.failed;
        fits = λ h s fit. (finish_leads t c.rows.ensures.checked h before.status (rested before.cursor)).leads.cut stops.front stops.back stops.parts s fit;
        cut = λ x y e h s fit. (finish_leads t c.rows.ensures.checked h before.status (rested before.cursor)).leads.cut x (y ++ stops.back)
            (front_of_front (finish_text t before.status) stops.front stops.back x y stops.parts e) s fit;
        lost = refl;
        some_left = stops.some_left;
      };
    })

pub returns : goal.returns
returns g c =
    let t = g.C.Certificate.table c.args.checked.now in
    let before = c.args.session.now in
    record {
      finishes = record {
        sent = c.in_ok-send_finish.ensures.sends;
        fits = λ h s fit. (finish_leads t c.rows.ensures.checked h before.status (rested before.cursor)).leads.ends s fit;
        cut = λ x y e h s fit. (finish_leads t c.rows.ensures.checked h before.status (rested before.cursor)).leads.cut x y e s fit;
        fresh = refl;
      };
    }
