use Rattle.std.proofs.Common.{sym, arith}
use Rattle.std.proofs.lemmas.Option.{slice_get-get_or, slice_get_past}
use Rattle.ti_rows.specs.Names.{firsts, first_in_order}
use Rattle.ti_rows.proofs.rows.Row.first.Goals as goal

pub returns-then-order-lt42 : goal.returns-then-order-lt42
unfolding first_in_order
returns-then-order-lt42 c = sym (slice_get-get_or firsts c.args.order _ (omega arith))

pub returns-else-order-lt42 : goal.returns-else-order-lt42
unfolding first_in_order
returns-else-order-lt42 c = sym (slice_get_past firsts c.args.order (omega arith))
