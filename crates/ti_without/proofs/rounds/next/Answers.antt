use Rattle.std.proofs.Common.{◌≡◌, true, false, List, sym, subst, ◌∙◌}
use Rattle.ti_checker.specs.declared.causes.No.{No}
use Rattle.ti_without.specs.Going.{LeavesAll}
use Rattle.ti_without.specs.Rounds.{can_go_on}
use Rattle.ti_without.specs.Without.{CantGoOn}
use Rattle.ti_without.proofs.Leaves.{fewer_left, further}
use Rattle.ti_without.proofs.rounds.next.Goals as goal

pub returns-then-not-can_go_on-clause-stop : goal.returns-then-not-can_go_on-clause-stop
returns-then-not-can_go_on-clause-stop c =
    let stuck : can_go_on c.args.smaller.entry c.in_ok-nos.nos.items ≡ false =
    subst (λ (l : List No). can_go_on c.args.smaller.entry l ≡ false) c.deref.ensures.value (sym c.can_go_on.ensures ∙ c.if-not-can_go_on.true) in
    record { refused = c.requires; last = CantGoOn c.in_ok-nos.nos.items c.in_ok-nos.ensures stuck }

pub returns-clause-further : goal.returns-clause-further
returns-clause-further c =
    let can : can_go_on c.args.smaller.entry c.in_ok-nos.nos.items ≡ true =
    subst (λ (l : List No). can_go_on c.args.smaller.entry l ≡ true) c.deref.ensures.value (sym c.can_go_on.ensures ∙ c.if-not-can_go_on.false) in
    further c.args.smaller c.in_ok-but_all.field-0 c.args.size.rows c.args.size.cols c.in_ok-nos.nos.items c.in_ok-nos.ensures can
    (subst (λ (l : List No). LeavesAll c.args.smaller l c.in_ok-but_all.field-0) c.deref-2.ensures.value c.in_ok-but_all.ensures)

pub returns-clause-fewer : goal.returns-clause-fewer
returns-clause-fewer c =
    let can : can_go_on c.args.smaller.entry c.in_ok-nos.nos.items ≡ true =
    subst (λ (l : List No). can_go_on c.args.smaller.entry l ≡ true) c.deref.ensures.value (sym c.can_go_on.ensures ∙ c.if-not-can_go_on.false) in
    fewer_left c.args.smaller c.in_ok-but_all.field-0 c.in_ok-nos.nos.items can (subst (λ (l : List No). LeavesAll c.args.smaller l c.in_ok-but_all.field-0) c.deref-2.ensures.value c.in_ok-but_all.ensures)
