use Rattle.ti_openings.proofs.Sessions.{opens_by}
use Rattle.ti_openings.proofs.openings.names_left_out.Goals as goal

pub returns-in_ok-names-in-Ok : goal.returns-in_ok-names-in-Ok
returns-in_ok-names-in-Ok c =
    opens_by c.args.entry.now c.args.size.rows c.args.size.cols c.in-Ok.found c.as_slice.result.now c.in_ok-names-in-Ok.names.items c.as_slice.ensures.value c.in-Ok.ensures.found c.in-Ok.ensures.needed c.in-Ok.ensures.whole c.in_ok-names-in-Ok.ensures
