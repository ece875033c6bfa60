use Rattle.std.proofs.Common.{All, IfSome, Option, sym, subst, ◌∙◌}
use Rattle.ti_without.specs.Without.{IsFound, IsNeeded}
use Rattle.ti_without.specs.declared.without.Without.{Without}
use Rattle.ti_openings.proofs.Sessions.{opens_by, some_faults, whole_by}
use Rattle.ti_openings.proofs.openings.names_left_out_beside.Goals as goal

pub certify_beside-requires : goal.certify_beside-requires
certify_beside-requires c = some_faults c.args.entry.now c.args.size.rows c.args.size.cols c.args.nos.now c.requires (sym c.is_empty.ensures ∙ c.if-is_empty.false)

pub returns-in_ok-names-in-Some : goal.returns-in_ok-names-in-Some
returns-in_ok-names-in-Some c =
    let entry = c.args.entry.now in
    let rows = c.args.size.rows in
    let cols = c.args.size.cols in
    let faults = some_faults entry rows cols c.args.nos.now c.requires (sym c.is_empty.ensures ∙ c.if-is_empty.false) in
    opens_by entry rows cols c.in-Some.found c.as_slice.result.now c.in_ok-names-in-Some.names.items c.as_slice.ensures.value
    (subst (λ (o : Option Without). IfSome o (IsFound entry rows cols)) c.in-Some.is c.in_ok-found.ensures.found)
    (subst (λ (o : Option Without). IfSome o (λ w. All (IsNeeded entry rows cols w.left_out.items) w.left_out.items)) c.in-Some.is c.in_ok-found.ensures.needed)
    (whole_by entry rows cols c.args.nos.now c.in-Some.found.left_out.items faults)
    c.in_ok-names-in-Some.ensures
