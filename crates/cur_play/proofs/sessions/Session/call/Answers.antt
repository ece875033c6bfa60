use Rattle.std.proofs.Common.{◌∙◌, ap, refl}
use Rattle.cur_update.specs.Painters.{Painted}
use Rattle.cur_play.proofs.Deliveries.{IsBound}
use Rattle.cur_play.proofs.MarkFacts.{same_cells, shown_on}
use Rattle.cur_play.proofs.Plays.{checked_kept, played_done, played_refused, sizes_sent, stage_kept}
use Rattle.cur_play.proofs.sessions.Session.call.Goals as goal

pub send-requires-clause-marked : goal.send-requires-clause-marked
send-requires-clause-marked g c =
    same_cells c.draw-drawn.new.stale.screen c.draw-drawn.new.painter.shown c.draw-drawn.new.screen c.self.inside.painter.shown c.draw-drawn.new.screen (ap (λ (p : Painted _). p.shown) c.draw-drawn.ensures.painter) refl
    (c.draw-drawn.ensures.marked c.self.inside.painter.shown.grid c.self.invariant.2.screen)

pub invariant_of-self : goal.invariant_of-self
invariant_of-self g c =
    let s = c.self.inside in
    let drew = c.draw-drawn in
    let sent = c.send in
    let same = sent.ensures.certificate ∙ drew.ensures.certificate in
    let sizes = sizes_sent (g.C.Certificate.table drew.new.painter.checked) c.output_of.result s.desk drew.new.desk s.screen drew.new.screen sent.new.screen drew.new.painter.session.status sent.new.painter.session.status sent.result drew.ensures.sizes sent.ensures.delivers in (
      stage_kept g.C.Certificate.table s.painter sent.new.painter s.desk drew.new.desk s.screen sent.new.screen c.self.invariant.0 sizes same,
      checked_kept g.C.Certificate.table s.painter sent.new.painter c.self.invariant.1 same,
      record { window = shown_on drew.new.stale.window drew.new.desk drew.new.screen.grid sent.new.screen.grid sent.ensures.cells drew.ensures.touched; screen = sent.ensures.marked },
    )

pub returns-in-Done : goal.returns-in-Done
returns-in-Done g c =
    let s = c.self.inside in
    let drew = c.draw-drawn in
    let sent = c.send in
    let bound : IsBound = record { most = c.cells_bounded.ensures.most; none = c.cells_bounded.ensures.none } in
    let all = played_done g.W.Wire.went g.W.Wire.failures g.met.W.Wire.lawful bound c.args.wire.now sent.new.wire g.C.Certificate.table g.C.Certificate.partners
    s.desk s.screen s.painter c.args.call.now drew.new.desk drew.new.screen drew.new.painter drew.result sent.result c.output_of.result sent.ensures.puts.0 sent.new.screen sent.new.painter
    c.self.invariant.1 c.self.invariant.0.rows c.self.invariant.0.cols c.in-Done.is drew.ensures.draws drew.ensures.sizes drew.ensures.painter c.output_of.ensures sent.ensures.delivers sent.ensures.puts.1 sent.ensures.certificate sent.ensures.mode in
    rw (← c.self.view_is) (record {
      step = all.step;
      carries = all.carries;
      stage = stage_kept g.C.Certificate.table s.painter sent.new.painter s.desk drew.new.desk s.screen sent.new.screen c.self.invariant.0 all.sizes all.certificate;
      checked = checked_kept g.C.Certificate.table s.painter sent.new.painter c.self.invariant.1 all.certificate;
      certificate = all.certificate;
    })

pub invariant_of-self-in_default : goal.invariant_of-self-in_default
invariant_of-self-in_default g c =
    let s = c.self.inside in
    let drew = c.draw-drawn in (
      stage_kept g.C.Certificate.table s.painter drew.new.painter s.desk drew.new.desk s.screen drew.new.screen c.self.invariant.0 drew.ensures.sizes drew.ensures.certificate,
      checked_kept g.C.Certificate.table s.painter drew.new.painter c.self.invariant.1 drew.ensures.certificate,
      record {
        window = drew.ensures.touched;
        screen = same_cells drew.new.stale.screen drew.new.painter.shown drew.new.screen s.painter.shown drew.new.screen (ap (λ (p : Painted _). p.shown) drew.ensures.painter) refl
            (drew.ensures.marked s.painter.shown.grid c.self.invariant.2.screen);
      },
    )

pub returns-in_default : goal.returns-in_default
returns-in_default g c =
    let s = c.self.inside in
    let drew = c.draw-drawn in
    let bound : IsBound = record { most = c.cells_bounded.ensures.most; none = c.cells_bounded.ensures.none } in
    let all = played_refused g.W.Wire.went g.W.Wire.failures g.met.W.Wire.lawful bound c.args.wire.now g.C.Certificate.table g.C.Certificate.partners
    s.desk s.screen s.painter c.args.call.now drew.new.desk drew.new.screen drew.new.painter drew.result
    c.self.invariant.1 c.self.invariant.0.rows c.self.invariant.0.cols c.in_default.not-Done drew.ensures.draws drew.ensures.sizes drew.ensures.painter in
    rw (← c.self.view_is) (record {
      step = all.step;
      carries = all.carries;
      stage = stage_kept g.C.Certificate.table s.painter drew.new.painter s.desk drew.new.desk s.screen drew.new.screen c.self.invariant.0 drew.ensures.sizes drew.ensures.certificate;
      checked = checked_kept g.C.Certificate.table s.painter drew.new.painter c.self.invariant.1 drew.ensures.certificate;
      certificate = drew.ensures.certificate;
    })
