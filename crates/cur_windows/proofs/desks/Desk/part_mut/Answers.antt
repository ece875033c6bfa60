use Rattle.cur_drawing.specs.Grids.{part_written}
use Rattle.cur_windows.specs.Desks.{State}
use Rattle.cur_windows.proofs.Loans.{closes_root, part_shape}
use Rattle.cur_windows.proofs.desks.Desk.part_mut.Goals as goal

pub invariant_of-self-lent : goal.invariant_of-self-lent
invariant_of-self-lent c = λ w.
    let d : State = record { rows = c.self.inside.rows; cols = c.self.inside.cols; grids = c.self.inside.grids.items; origins = c.self.inside.origins.items; windows = c.self.inside.windows.items } in
    closes_root d d c.args.root c.index_mut.result.now (part_written c.args.row c.args.from w c.index_mut.result.now) (λ t. d) c.self.invariant c.requires.root c.index_mut.ensures.value (part_shape c.args.row c.args.from w c.index_mut.result.now)
