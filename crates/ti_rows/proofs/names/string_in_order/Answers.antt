use Rattle.std.proofs.Common.{ℕ, ◌<◌, sym, subst}
use Rattle.ti_rows.specs.Names.{string_in_order}
use Rattle.ti_rows.proofs.NameFacts.{strings_small}
use Rattle.ti_rows.proofs.names.string_in_order.Goals as goal

pub returns-clause-small : goal.returns-clause-small
unfolding string_in_order
returns-clause-small c = subst (λ (n : ℕ). n < 414) (sym c.from.ensures) (strings_small c.args.order c.requires)
