use Rattle.std.proofs.Common.{◌≡◌, arith, rules}
use Rattle.ti_rows.specs.Names.{name_in_order}
use Rattle.ti_rows.proofs.NameFacts.{first_named, first_again, first_found}
use Rattle.ti_rows.proofs.rows.Row.named.Goals as goal

pub returns-then-eq-clause-name : goal.returns-then-eq-clause-name
returns-then-eq-clause-name c =
    let same : name_in_order c.loop-order.order ≡ c.args.text.now = search rules in
    first_named c.loop-order.order c.first.result c.args.text.now (omega arith) c.first.ensures same

pub returns-then-eq-clause-first : goal.returns-then-eq-clause-first
returns-then-eq-clause-first c = first_again c.loop-order.order c.first.result (omega arith) c.first.ensures

pub returns-then-eq-clause-none : goal.returns-then-eq-clause-none
returns-then-eq-clause-none c = first_found _ c.loop-order.order c.first.result (omega arith) c.first.ensures
