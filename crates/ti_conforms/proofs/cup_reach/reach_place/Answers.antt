use Rattle.std.proofs.Common.{OnOk, subst, List, ℕ}
use Rattle.vt_term.specs.Run as Run
use Rattle.ti_conforms.specs.CupReach as spec
use Rattle.ti_conforms.proofs.CupReaches.{place_reached}
use Rattle.ti_conforms.proofs.cup_reach.reach_place.Goals as goal

pub returns-clause-reached : goal.returns-clause-reached
returns-clause-reached c =
    let rows = c.args.size.rows in
    let cols = c.args.size.cols in
    let whole : OnOk c.check_bytes.result (spec.IsWhole c.send.new.bytes.items) = subst (λ (b : List ℕ). OnOk c.check_bytes.result (spec.IsWhole b)) c.as_slice.ensures.value c.check_bytes.ensures.whole in
    let leads : OnOk c.check_bytes.result (Run.Reaches rows cols c.send.new.bytes.items c.args.place.row c.args.place.col) = subst (λ (b : List ℕ). OnOk c.check_bytes.result (Run.Reaches rows cols b c.args.place.row c.args.place.col)) c.as_slice.ensures.value c.check_bytes.ensures.leads in
    place_reached c.args.string.now rows cols c.args.place.row c.args.place.col c.send.new.bytes.items c.check_bytes.result c.in_ok-send.ensures.sends whole leads
