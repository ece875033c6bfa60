use Rattle.std.proofs.Common.{ℕ, List, IfOk, subst}
use Rattle.std.specs.List.{AllByRecursion}
use Rattle.ti_hints.specs.Places.{IsHintOf}
use Rattle.ti_reports.proofs.hints.hints_in.Goals as goal

-- the lines that were kept are those of the text
pub returns : goal.returns
returns c =
    subst (λ (lines : List (List ℕ)). IfOk c.entry_hints.result (λ hints. AllByRecursion (IsHintOf lines c.args.source.now.raws.now c.args.place) hints.items)) c.lines.ensures c.entry_hints.ensures
