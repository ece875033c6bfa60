use Rattle.std.proofs.Common.{◌++◌, List, ℕ, sym, ap, ◌∙◌}
use Rattle.ti_rows.specs.declared.rows.Row.{Row}
use Rattle.ti_conforms.specs.Resync.{texts_of, resync_rows}
use Rattle.ti_conforms.proofs.Sendable.{in_order}
use Rattle.ti_cert.specs.Table.{table_of}
use Rattle.ti_cert.proofs.verification.resync_of.Goals as goal

pub returns : goal.returns
returns c =
    let t = table_of c.args.table.now in
    c.from_vec.ensures ∙ (c.in_ok-add_all.ensures ∙ (ap (λ (l : List ℕ). l ++ texts_of t.line_of c.resync_rows.result) c.new-text.ensures.items
    ∙ (ap (λ (rows : List Row). texts_of t.line_of rows) (c.resync_rows.ensures ∙ ap (λ (n : ℕ). resync_rows n) c.size.ensures.rows) ∙ sym (in_order t))))
