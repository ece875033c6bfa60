use Rattle.ti_cert.proofs.Preservation.{holds_at_first}
use Rattle.ti_cert.proofs.known.Known.new.Goals as goal

pub returns-clause-holds : goal.returns-clause-holds
returns-clause-holds c = holds_at_first c.in_ok-new.field-0 c.none.result c.new-2.result.items c.args.size.rows c.args.size.cols c.in_ok-new.ensures c.none.ensures c.new-2.ensures.items
