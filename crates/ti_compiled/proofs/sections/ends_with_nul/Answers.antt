use Rattle.std.proofs.Common.{sym, ◌∙◌}
use Rattle.ti_compiled.proofs.Ends.{ends_last}
use Rattle.ti_compiled.proofs.sections.ends_with_nul.Goals as goal

pub returns-then-not-is_empty : goal.returns-then-not-is_empty
returns-then-not-is_empty c = ends_last c.args.bytes.now (sym c.is_empty.ensures ∙ c.if-not-is_empty.true)
