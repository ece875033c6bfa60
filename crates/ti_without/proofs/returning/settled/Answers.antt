use Rattle.std.proofs.Common.{◌<◌, Option, IfSome, All, Contains, List, length, subst}
use Rattle.ti_without.specs.Less.{caps_of, less}
use Rattle.ti_without.specs.Without.{IsCertified}
use Rattle.ti_without.specs.declared.left_out.LeftOut.{LeftOut}
use Rattle.ti_without.specs.declared.without.Without.{Without}
use Rattle.ti_without.proofs.Ends.{found_again}
use Rattle.ti_without.proofs.returning.settled.Goals as goal

pub loop-found-preserved : goal.loop-found-preserved
loop-found-preserved c =
    let certified : IsCertified (less c.args.entry.now (caps_of c.in-Some.better.left_out.items)) c.args.size.rows c.args.size.cols c.in-Some.better.checked =
    subst (λ (o : Option Without). IfSome o (λ w. IsCertified (less c.args.entry.now (caps_of w.left_out.items)) c.args.size.rows c.args.size.cols w.checked)) c.in-Some.is c.in_ok-better.ensures.some in
    let part : All (Contains c.deref.result.now) c.in-Some.better.left_out.items =
    subst (λ (o : Option Without). IfSome o (λ w. All (Contains c.deref.result.now) w.left_out.items)) c.in-Some.is c.in_ok-better.ensures.part in
    found_again c.args.entry.now c.args.size.rows c.args.size.cols c.loop-found.found c.in-Some.better c.loop-found.invariant certified
    (subst (λ (l : List LeftOut). All (Contains l) c.in-Some.better.left_out.items) c.deref.ensures.value part)

pub loop-found-smaller : goal.loop-found-smaller
loop-found-smaller c =
    let fewer : length c.in-Some.better.left_out.items < length c.deref.result.now =
    subst (λ (o : Option Without). IfSome o (λ w. length w.left_out.items < length c.deref.result.now)) c.in-Some.is c.in_ok-better.ensures.fewer in
    subst (λ (l : List LeftOut). length c.in-Some.better.left_out.items < length l) c.deref.ensures.value fewer
