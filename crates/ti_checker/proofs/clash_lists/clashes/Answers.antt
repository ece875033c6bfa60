use Rattle.std.proofs.lemmas.Result.{IfOk-weaker}
use Rattle.ti_checker.specs.Kept.{unnamed}
use Rattle.ti_checker.proofs.ClashLists.{all_told}
use Rattle.ti_checker.proofs.clash_lists.clashes.Goals as goal

pub returns : goal.returns
returns c = IfOk-weaker c.noes_of.result _ _ (λ nos told. all_told c.args.entry.now c.args.size.rows c.args.size.cols (unnamed c.args.left_out.now) c.leads_out-leads.result c.in_ok-all.all nos.items c.args.size.limits c.requires c.leads_out-leads.ensures c.in_ok-all.ensures told) c.noes_of.ensures

pub seen_but-requires : goal.seen_but-requires
seen_but-requires c = c.requires.stand

pub clashes_together-requires-clause-stand : goal.clashes_together-requires-clause-stand
clashes_together-requires-clause-stand c = c.requires.stand
