use Rattle.std.proofs.Common.{◌≡◌, ◌<◌, Option, IfNone, IfSome, All, List, length, subst, sym, take_all, arith}
use Rattle.std.proofs.lemmas.List.Elements.{All-more, All-same}
use Rattle.std.specs.Prelude.{Contains}
use Rattle.ti_without.specs.Less.{but, caps_of, less}
use Rattle.ti_without.specs.Without.{IsNeeded, IsRefused}
use Rattle.ti_without.specs.declared.left_out.LeftOut.{LeftOut}
use Rattle.ti_without.specs.declared.without.Without.{Without}
use Rattle.ti_without.proofs.Ends.{but_shorter, part_of}
use Rattle.ti_without.proofs.returning.less_left.Goals as goal

pub returns-in-Some-clause-part : goal.returns-in-Some-clause-part
returns-in-Some-clause-part c =
    let is : c.in-Some.found.left_out.items ≡ but c.one-item.result.cap c.args.left.now = subst (λ (o : Option Without). IfSome o (λ w. w.left_out.items ≡ but c.one-item.result.cap c.args.left.now)) c.in-Some.is c.in_ok-found.ensures.fewer in
    All-same (Contains c.args.left.now) c.in-Some.found.left_out.items (but c.one-item.result.cap c.args.left.now) is (part_of c.one-item.result.cap c.args.left.now)

pub returns-in-Some-clause-fewer : goal.returns-in-Some-clause-fewer
returns-in-Some-clause-fewer c =
    let is : c.in-Some.found.left_out.items ≡ but c.one-item.result.cap c.args.left.now = subst (λ (o : Option Without). IfSome o (λ w. w.left_out.items ≡ but c.one-item.result.cap c.args.left.now)) c.in-Some.is c.in_ok-found.ensures.fewer in
    subst (λ (l : List LeftOut). length l < length c.args.left.now) (sym is) (but_shorter c.args.left.now c.loop-one.one-index c.one-item.result (omega arith) (sym c.one-item.is))

pub returns-clause-none : goal.returns-clause-none
returns-clause-none c =
    subst (λ (l : List LeftOut). All (IsNeeded c.args.entry.now c.args.size.rows c.args.size.cols c.args.left.now) l) (take_all c.loop-one.one-index c.args.left.now (omega arith)) c.loop-one.invariant

-- one more can't come back
pub loop-one-preserved : goal.loop-one-preserved
loop-one-preserved c =
    let refused : IsRefused (less c.args.entry.now (caps_of (but c.one-item.result.cap c.args.left.now))) c.args.size.rows c.args.size.cols =
    subst (λ (o : Option Without). IfNone o (IsRefused (less c.args.entry.now (caps_of (but c.one-item.result.cap c.args.left.now))) c.args.size.rows c.args.size.cols)) c.in_default.is c.in_ok-found.ensures.none in
    All-more (IsNeeded c.args.entry.now c.args.size.rows c.args.size.cols c.args.left.now) c.args.left.now c.loop-one.one-index c.one-item.result (omega arith) c.loop-one.invariant
    (subst (λ (l : LeftOut). IsNeeded c.args.entry.now c.args.size.rows c.args.size.cols c.args.left.now l) c.one-item.is refused)
