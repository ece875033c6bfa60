use Rattle.cur_windows.proofs.Additions.{copy_canvas, copy_whole, copy_frame}
use Rattle.cur_windows.proofs.desks.Desk.dupwin.Goals as goal

pub add_root-requires-clause-canvas : goal.add_root-requires-clause-canvas
add_root-requires-clause-canvas c = rw c.whole_area-whole.ensures (copy_canvas c.in_ok-slot.slot.window c.in-Ok.grid c.copy_from.new.self c.in_ok-slot.ensures.placed.canvas.window c.in-Ok.ensures c.copy_from.ensures.shape)

pub add_root-requires-clause-whole : goal.add_root-requires-clause-whole
add_root-requires-clause-whole c = rw c.whole_area-whole.ensures (copy_whole c.in_ok-slot.slot.window.area.rows c.in_ok-slot.slot.window.area.cols c.in-Ok.grid c.copy_from.new.self c.in-Ok.ensures c.copy_from.ensures.shape)

pub add_root-requires-clause-frame : goal.add_root-requires-clause-frame
add_root-requires-clause-frame c = λ window. copy_frame _ _ c.in_ok-slot.slot.window.area.rows c.in_ok-slot.slot.window.area.cols c.copy_origin-origin.result c.copy_from.new.self
    (copy_whole c.in_ok-slot.slot.window.area.rows c.in_ok-slot.slot.window.area.cols c.in-Ok.grid c.copy_from.new.self c.in-Ok.ensures c.copy_from.ensures.shape) (c.copy_origin-origin.ensures.rows window) (c.copy_origin-origin.ensures.cols window)
