use Rattle.ti_rows.proofs.NameFacts.{firsts_in_order, orders_small}
use Rattle.ti_rows.proofs.laws.places.Goals as goal

pub returns-clause-firsts : goal.returns-clause-firsts
returns-clause-firsts c = firsts_in_order

pub returns-clause-orders : goal.returns-clause-orders
returns-clause-orders c = orders_small
