use Rattle.std.proofs.Common.{List, ◌++◌, sym, subst, ap, ◌∙◌}
use Rattle.std.proofs.lemmas.Result.{IfOk-weaker}
use Rattle.ti_checker.specs.Kept.{IsStanding, unnamed}
use Rattle.ti_checker.specs.declared.causes.No.{No}
use Rattle.ti_faults.specs.AllFaults.{or_one}
use Rattle.ti_faults.proofs.Standing.{standing}
use Rattle.ti_faults.proofs.all_faults.faults_beside.Goals as goal

-- the capabilities that the faults of single rows name are left out
pub clashes-requires : goal.clashes-requires
clashes-requires c = subst (λ (l : List No). IsStanding c.args.entry.now c.args.size.rows c.args.size.cols (unnamed l)) (sym c.as_slice.ensures.value)
    (standing c.args.entry.now c.args.size.rows c.args.size.cols c.in_ok-single.single.items c.in_ok-single.ensures)

-- the three lists, one after another
pub returns : goal.returns
returns c = IfOk-weaker c.or_one.result _ _ (λ nos is. record {
  refusal = c.args.refusal;
  refused = c.requires.refused;
  claims = c.requires.claims;
  whole = c.in_ok-nos.nos.items;
  of_whole = c.in_ok-nos.ensures;
  single = c.in_ok-single.single.items;
  of_single = c.in_ok-single.ensures;
  together = c.in_ok-together.together.items;
  of_together = c.in_ok-together.ensures;
  are = is ∙ ap (λ (l : List No). or_one l c.args.refusal) (c.in_ok-append-2.ensures.items ∙ ap (λ (l : List No). l ++ c.in_ok-together.together.items) c.in_ok-append.ensures.items);
}) c.or_one.ensures
