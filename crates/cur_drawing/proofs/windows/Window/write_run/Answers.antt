use Rattle.std.proofs.Common.{◌≡◌, ◌∙◌, ◌+◌, ap, refl, set, length, arith, ℕ}
use Rattle.grids.specs.Grids.{written as cells_written}
use Rattle.cur_drawing.specs.declared.puts.Put.{Put}
use Rattle.cur_drawing.specs.Cells.{Content, lettered}
use Rattle.cur_drawing.specs.Grids.{Grid, line_at, shape_of}
use Rattle.cur_drawing.specs.Windows.{content}
use Rattle.cur_drawing.specs.Calls.{done, plain}
use Rattle.cur_drawing.proofs.Preservation.{kept_by}
use Rattle.cur_drawing.proofs.WrittenRuns.{run_written, shape_of-run}
use Rattle.cur_drawing.proofs.windows.Window.write_run.Goals as goal

pub returns-clause-value : goal.returns-clause-value
returns-clause-value c =
    let w = c.args.self.now in let g = c.args.grid.now in let text = c.args.text.now in
    let r : ℕ = w.area.top + w.row in let j : ℕ = w.area.left + w.col in
    let v = record w { col = w.col + length text } in
    let space : c.content.result ≡ content w (plain 32) = c.content.ensures ∙ ap (λ (p : Put). content w p) c.plain.ensures in
    let letter : c.content-2.result ≡ content w (plain 120) = c.content-2.ensures ∙ ap (λ (p : Put). content w p) c.plain-2.ensures in
    ap (λ (x : Grid). done x v) (c.write.ensures
    ∙ ap (λ (s : Content). set g r (cells_written (lettered s c.content-2.result) j text (line_at g r))) space
    ∙ ap (λ (l : Content). set g r (cells_written (lettered (content w (plain 32)) l) j text (line_at g r))) letter)
    ∙ run_written text w g c.requires.printed c.requires.room (omega (arith, c.requires.canvas.window.row, c.requires.canvas.fits.rows))

pub returns-clause-kept : goal.returns-clause-kept
returns-clause-kept c =
    let w = c.args.self.now in let g = c.args.grid.now in
    kept_by _ _ _ _ (ap shape_of c.write.ensures ∙ shape_of-run g (w.area.top + w.row) (lettered c.content.result c.content-2.result) (w.area.left + w.col) c.args.text.now) refl
    (record { row = omega arith; col = omega arith; region = omega arith; bottom = omega arith; pair = omega arith; height = omega arith; width = omega arith }) c.requires.canvas
