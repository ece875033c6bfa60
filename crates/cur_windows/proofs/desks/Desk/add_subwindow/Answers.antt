use Rattle.std.proofs.Common.{ap}
use Rattle.cur_drawing.specs.declared.windows.Window.{Window}
use Rattle.cur_windows.proofs.Additions.{subwindow_added_new}
use Rattle.cur_windows.proofs.desks.Desk.add_subwindow.Goals as goal

pub invariant_of-self : goal.invariant_of-self
invariant_of-self c = subwindow_added_new _ _ c.args.n c.args.id c.args.slot.now c.args.area c.new.result c.self.view_is c.self.invariant c.requires.number c.requires.free c.requires.placed c.requires.part
    (ap (λ (w : Window). w.area) c.new.ensures.value) c.new.ensures.legal
