use Rattle.std.proofs.Common.{Bool, sym, subst, ◌∙◌}
use Rattle.ti_openings.specs.Openings.{OpensAs}
use Rattle.ti_openings.proofs.Sessions.{opens_as, some_faults}
use Rattle.ti_openings.proofs.openings.opens_beside.Goals as goal

pub found_beside-requires : goal.found_beside-requires
found_beside-requires c = some_faults c.args.entry.now c.args.size.rows c.args.size.cols c.args.nos.now c.requires (sym c.is_empty.ensures ∙ c.if-is_empty.false)

pub returns : goal.returns
returns c =
    subst (λ (opens : Bool). OpensAs opens c.args.entry.now c.args.size.rows c.args.size.cols) (sym c.is_some.ensures)
    (opens_as c.args.entry.now c.args.size.rows c.args.size.cols c.in_ok-found.found c.in_ok-found.ensures.some c.in_ok-found.ensures.none)
