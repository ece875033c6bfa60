use Rattle.std.proofs.Common.{sym, subst, ◌∙◌}
use Rattle.ti_conforms.specs.Judged.{IsJudged}
use Rattle.ti_cert.specs.Table.{CheckedTable, table_of}
use Rattle.ti_cert.proofs.AuditSteps.{judged_at, stands_at}
use Rattle.ti_cert.proofs.Singles.{looks_stand}
use Rattle.ti_cert.proofs.audits.Progress.into_table.Goals as goal

pub new-requires-clause-looks : goal.new-requires-clause-looks
new-requires-clause-looks c = looks_stand c.args.self.known.strings c.args.self.known.looks (stands_at c.args.self c.args.self.awaited c.requires.pairs c.requires.lines c.requires.tells).0.holds.looks

pub new-requires-clause-judged : goal.new-requires-clause-judged
new-requires-clause-judged c = judged_at c.args.self c.args.self.awaited _ c.requires.pairs c.requires.lines (sym c.settled.ensures ∙ c.unwrap-settled.ensures) c.requires.tells

pub returns-clause-judged : goal.returns-clause-judged
returns-clause-judged c = subst (λ (t : CheckedTable). IsJudged (table_of t)) (sym c.new.ensures)
    (judged_at c.args.self c.args.self.awaited _ c.requires.pairs c.requires.lines (sym c.settled.ensures ∙ c.unwrap-settled.ensures) c.requires.tells)
