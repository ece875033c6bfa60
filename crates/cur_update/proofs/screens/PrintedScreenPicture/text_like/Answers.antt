use Rattle.std.proofs.Common.{◌≡◌, ◌+◌, ℕ, ap, arith, length, refl, subst, ◌∙◌}
use Rattle.std.specs.List.{slice_range}
use Rattle.std.proofs.lemmas.List.{get_or_read_under}
use Rattle.cur_drawing.specs.Cells.{Content, space}
use Rattle.cur_update.specs.Inks.{IsLineText}
use Rattle.cur_update.proofs.Likeness.{text_found}
use Rattle.cur_update.proofs.MarkedLines.{part_long}
use Rattle.cur_update.proofs.screens.PrintedScreenPicture.text_like.Goals as goal

pub returns-clause-found : goal.returns-clause-found
returns-clause-found c =
    let m = c.args.self.now.means.now in
    let v = c.args.self.now.screen.now in
    let s = c.args.stretch in
    let cells = c.row-cells.result.now in
    let rows = ap (λ (p : ℕ × ℕ). p.0) c.size-rows.ensures in
    let cols = ap (λ (p : ℕ × ℕ). p.1) c.size-rows.ensures in
    let legal = c.row-cells.ensures.legal in
    let long : length cells ≡ v.cols = ap length c.row-cells.ensures.value ∙ legal.columns s.row (omega (arith, rows, c.if-stretch-rows.false, legal.lines)) in
    let line = slice_range cells s.from (s.from + s.count) in
    let other = get_or_read_under cells c.args.like (length cells) c.index-cells-like.result space c.index-cells-like.is (omega (arith, cols, c.if-like-cols.false, long)) refl in
    text_found m v s c.args.like c.line_text.result c.line_text.new.text cells (omega (arith, rows, c.if-stretch-rows.false)) (omega (arith, cols, c.if-end-cols.false)) (omega (arith, cols, c.if-like-cols.false)) c.row-cells.ensures.value
    (part_long cells s.from s.count (omega (arith, cols, c.if-end-cols.false, long))) (subst (λ (x : Content). IsLineText m v line x c.line_text.result c.line_text.new.text) other c.line_text.ensures.found)
