use Rattle.ti_reports.proofs.NameFacts.{all_before}
use Rattle.ti_reports.proofs.names.names_of.Goals as goal

-- the last name
pub returns : goal.returns
returns c = all_before c.args.names.now c.loop-own.rest.now c.loop-own.all.items c.push_name-2.new.all.items c.loop-own.invariant c.in_default.ensures.none c.in_ok-push_name-2.ensures
