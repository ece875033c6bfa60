use Rattle.std.proofs.Common.{◌∙◌, ap}
use Rattle.cur_drawing.specs.Windows.{fresh}
use Rattle.cur_windows.proofs.Additions.{new_canvas, new_whole, new_frame}
use Rattle.cur_windows.proofs.desks.Desk.add_blank_root.Goals as goal

pub add_root-requires-clause-canvas : goal.add_root-requires-clause-canvas
add_root-requires-clause-canvas c = new_canvas c.args.grid c.args.area c.new.result c.requires.grid (c.new.ensures.value ∙ ap fresh c.whole_area-whole.ensures) c.new.ensures.legal

pub add_root-requires-clause-whole : goal.add_root-requires-clause-whole
add_root-requires-clause-whole c = new_whole c.args.grid c.args.area c.new.result c.requires.grid (c.new.ensures.value ∙ ap fresh c.whole_area-whole.ensures)

pub add_root-requires-clause-frame : goal.add_root-requires-clause-frame
add_root-requires-clause-frame c = λ window. new_frame _ _ c.args.grid c.args.area c.requires.grid c.requires.within
