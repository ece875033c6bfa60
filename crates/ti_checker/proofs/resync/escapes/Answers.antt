use Rattle.std.proofs.Common.{sym, ◌∙◌}
use Rattle.ti_checker.specs.Kept.{unnamed}
use Rattle.ti_checker.proofs.Together.{escaped, stays_open}
use Rattle.ti_checker.proofs.resync.escapes.Goals as goal

pub returns-clause-yes : goal.returns-clause-yes
returns-clause-yes c = λ e.
    let b = c.begins_with_escape.ensures.yes e in
    escaped c.args.entry.now c.args.size.rows c.args.size.cols (unnamed c.args.left_out.now) c.resync_rows.result c.resync_rows.ensures c.in_ok-text.text.items c.in_ok-text.ensures b.0 (sym c.deref.ensures.value ∙ b.1)

pub returns-clause-no : goal.returns-clause-no
returns-clause-no c = λ e. stays_open c.args.entry.now c.args.size.rows c.args.size.cols (unnamed c.args.left_out.now) c.resync_rows.result c.resync_rows.ensures c.in_ok-text.text.items c.in_ok-text.ensures (λ rest f. c.begins_with_escape.ensures.no e rest (c.deref.ensures.value ∙ f))
