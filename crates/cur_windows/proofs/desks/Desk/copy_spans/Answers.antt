use Rattle.cur_windows.proofs.CopyFacts.{spans_desk, spans_view}
use Rattle.cur_windows.proofs.desks.Desk.copy_spans.Goals as goal

pub invariant_of-self : goal.invariant_of-self
invariant_of-self c = spans_desk _ c.args.source.now c.args.target.now c.args.spans.rows c.args.spans.cols c.args.skip c.deref_mut.result.now c.copy_between.new.grids _ _ c.self.invariant c.requires.target_root
    c.deref_mut.ensures.value c.deref_mut.ensures.len c.copy_between.ensures

pub returns : goal.returns
returns c = spans_view _ _ c.args.source.now c.args.target.now c.args.spans.rows c.args.spans.cols c.args.skip c.deref_mut.result.now c.copy_between.new.grids _ _ c.self.view_is
    c.deref_mut.ensures.value c.deref_mut.ensures.len c.copy_between.ensures
