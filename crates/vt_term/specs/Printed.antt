-- The screen as a text.
pub use Rattle.vt_screen.specs.Printed.{row_text, cursor_text, color_text, mark_text, letters, style_text, same_mark}
pub use Rattle.vt_screen.specs.Printed.{same_color, same_style, at, run_start, ends_run, place_text, look_text}
pub use Rattle.vt_screen.specs.Printed.{run_text, runs_text, looks_text, screen_text}
