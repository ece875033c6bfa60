use Rattle.std.proofs.Common.{◌≡◌, drop}
use Rattle.std.specs.Prelude.{◌||◌}
use Rattle.std.specs.List.{list_any}
use Rattle.ti_printers.specs.Baselines.{says}
use Rattle.ti_printers.specs.declared.baselines.Statement.{Statement}
use Rattle.ti_printers.proofs.baselines.Baseline.knows.Given as goal

-- one of those so far says it, or one of those behind them, where one of all does
abbrev pub invariant-loop-statement : goal.invariant-loop-statement
invariant-loop-statement l =
    (l.is_known || list_any (λ (statement : Statement). says statement.known l.report) (drop l.statement-index l.self.statements.items))
    ≡ list_any (λ (statement : Statement). says statement.known l.report) l.self.statements.items
