-- The contents of one place of the display.
pub use Rattle.vt_screen.specs.Look.{IsPrinted, Look, plain, blank, space}
pub use Rattle.vt_screen.specs.declared.renditions.Rendition.{Rendition}
