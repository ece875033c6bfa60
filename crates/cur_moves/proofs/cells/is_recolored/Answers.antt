use Rattle.std.proofs.Common.{sym}
use Rattle.cur_steps.proofs.Sameness.{attributes_equal}
use Rattle.cur_moves.proofs.cells.is_recolored.Goals as goal

pub returns-then-same_attributes-clause-attributes : goal.returns-then-same_attributes-clause-attributes
returns-then-same_attributes-clause-attributes c = λ e. attributes_equal c.args.now.attributes c.args.wanted.attributes (sym c.if-same_attributes.ensures.value)
