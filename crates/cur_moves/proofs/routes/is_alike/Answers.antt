use Rattle.std.proofs.Common.{sym, ◌∙◌}
use Rattle.cur_steps.proofs.Sameness.{brush_equal, brush_known}
use Rattle.cur_moves.proofs.routes.is_alike.Goals as goal

pub returns-then-same_brush-clause-alike : goal.returns-then-same_brush-clause-alike
returns-then-same_brush-clause-alike c = λ e. record {
  brush = brush_equal c.args.belief.now.brush c.args.ink.brush (sym c.if-same_brush.ensures.value);
  set = c.is_active.ensures.active e;
}

pub returns-else-same_brush-clause-known : goal.returns-else-same_brush-clause-known
returns-else-same_brush-clause-known c = λ h. c.same_brush.ensures.value ∙ brush_known c.args.belief.now.brush c.args.ink.brush h.brush
