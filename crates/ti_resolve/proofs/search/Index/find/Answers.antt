use Rattle.std.proofs.Common.{◌∙◌}
use Rattle.ti_resolve.proofs.Indices.{found_within}
use Rattle.ti_resolve.proofs.search.Index.find.Goals as goal

pub returns-clause-range : goal.returns-clause-range
returns-clause-range c = found_within c.args.self.now.raws.now c.args.name.now c.copied.result (c.copied.ensures ∙ (c.get.ensures.value ∙ c.args.self.now.indexed c.args.name.now))
