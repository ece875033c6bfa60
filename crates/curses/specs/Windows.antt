-- Windows, their content, and the virtual screen.
pub use Rattle.grids.specs.declared.areas.Area.{Area}
pub use Rattle.grids.specs.declared.areas.Place.{Place}
pub use Rattle.cur_drawing.specs.declared.refusals.Refusal.{Refusal}
pub use Rattle.cur_drawing.specs.declared.refusals.Refusal.TheVariants as refusals
pub use Rattle.cur_drawing.specs.declared.spans.Span.{Span}
pub use Rattle.cur_drawing.specs.Calls
pub use Rattle.cur_drawing.specs.Cells
pub use Rattle.cur_drawing.specs.Grids
pub use Rattle.cur_drawing.specs.Spans
pub use Rattle.cur_drawing.specs.Windows as Options
pub use Rattle.cur_windows.specs.Copies
pub use Rattle.cur_windows.specs.Desks
pub use Rattle.cur_windows.specs.Loans
pub use Rattle.cur_windows.specs.Creations
pub use Rattle.cur_windows.specs.Queries
pub use Rattle.cur_windows.specs.Refreshes
pub use Rattle.cur_windows.specs.Rows
pub use Rattle.cur_windows.specs.Sizes
pub use Rattle.cur_windows.specs.Views
pub use Rattle.cur_screens.specs.Slots
pub use Rattle.cur_screens.specs.VirtualScreen
