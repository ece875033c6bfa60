-- The places of the display, line by line.
pub use Rattle.vt_screen.specs.Grid.{Grid, line_at, look_at, line_drawn, drawn_from, drawn, put, scrolled_up}
pub use Rattle.vt_screen.specs.Grid.{scrolled_down, part_filled, cells_inserted, cells_deleted, line_changed}
pub use Rattle.vt_screen.specs.Grid.{lines_filled, written, uniform, HasEvenLines}
