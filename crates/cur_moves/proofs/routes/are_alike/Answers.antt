use Rattle.std.proofs.Common.{◌+◌, ℕ, refl, subst}
use Rattle.cur_steps.specs.Gaps.{IsAlike}
use Rattle.cur_steps.specs.declared.inks.Ink.{Ink}
use Rattle.cur_moves.proofs.Gaps.{alike_more}
use Rattle.cur_moves.proofs.routes.are_alike.Goals as goal

pub loop-n-preserved : goal.loop-n-preserved
loop-n-preserved g c =
    let shown = g.N.Picture.cells c.args.shown.now in
    alike_more c.args.belief.now (λ (k : ℕ). shown c.args.from.row (c.args.from.col + k)) c.loop-n.n c.loop-n.invariant
    (subst (λ (x : Ink). IsAlike c.args.belief.now x) c.at.ensures.value (c.if-not-is_alike.ensures.alike refl))
