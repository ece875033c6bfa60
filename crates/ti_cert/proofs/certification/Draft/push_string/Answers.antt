use Rattle.std.proofs.Common.{refl, sym, ◌∙◌}
use Rattle.ti_rows.proofs.ListFacts.{next_follows}
use Rattle.ti_conforms.proofs.Walks.{nearer}
use Rattle.ti_cert.proofs.Drafts.{adds_next}
use Rattle.ti_cert.proofs.certification.Draft.push_string.Goals as goal

pub loop-next-init : goal.loop-next-init
loop-next-init c = record { range = c.requires.range; same = refl; on = λ rows cols entry n there checked d. d }

pub loop-next-smaller : goal.loop-next-smaller
loop-next-smaller c =
    let f = next_follows c.args.size.rows c.args.size.cols c.loop-next.row c.in-Some.next c.args.size.limits c.loop-next.invariant.range (sym c.in-Some.ensures) in
    nearer c.args.size.rows c.args.size.cols c.loop-next.row c.in-Some.next c.args.size.limits f f.range

pub loop-next-preserved : goal.loop-next-preserved
loop-next-preserved c =
    let f = next_follows c.args.size.rows c.args.size.cols c.loop-next.row c.in-Some.next c.args.size.limits c.loop-next.invariant.range (sym c.in-Some.ensures) in
    record {
      range = f.range;
      same = f.same_order ∙ c.loop-next.invariant.same;
      on = λ rows cols entry n there checked d.
          (adds_next c.args.string.now c.args.first c.loop-next.row c.args.self.now c.loop-next.self c.push_row.new.self c.loop-next.invariant.same c.loop-next.invariant.on c.in_ok-push_row.ensures rows cols entry n there checked d).draft;
    }

pub returns-in-None : goal.returns-in-None
returns-in-None c = adds_next c.args.string.now c.args.first c.loop-next.row c.args.self.now c.loop-next.self c.push_row.new.self c.loop-next.invariant.same c.loop-next.invariant.on c.in_ok-push_row.ensures
