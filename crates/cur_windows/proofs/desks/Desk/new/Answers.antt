use Rattle.std.proofs.Common.{refl, ◌∙◌, ap}
use Rattle.cur_drawing.specs.Windows.{fresh}
use Rattle.cur_windows.proofs.Additions.{new_from}
use Rattle.cur_windows.proofs.desks.Desk.new.Goals as goal

pub invariant_of-result : goal.invariant_of-result
invariant_of-result c = new_from 64 c.args.size.rows c.args.size.cols c.in_ok-grids.grids.items c.in_ok-origins.origins.items c.in_ok-windows.windows.items c.in_ok-grids-2.field-0 c.new.result
    refl c.in_ok-grids.ensures c.in_ok-origins.ensures c.in_ok-windows.ensures c.args.size.limits.1 c.args.size.limits.3 c.in_ok-grids-2.ensures (c.new.ensures.value ∙ ap fresh c.whole_area-whole.ensures) c.new.ensures.legal
