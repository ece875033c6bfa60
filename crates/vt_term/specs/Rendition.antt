-- The table of SGR.
pub use Rattle.vt_screen.specs.declared.renditions.RenditionChange.{RenditionChange}
pub use Rattle.vt_screen.specs.declared.renditions.RenditionChange.TheVariants.{Plain, Bold, Faint, Underline, Blink}
pub use Rattle.vt_screen.specs.declared.renditions.RenditionChange.TheVariants.{Negative, Concealed, NormalIntensity}
pub use Rattle.vt_screen.specs.declared.renditions.RenditionChange.TheVariants.{NotUnderlined, Steady, Positive}
pub use Rattle.vt_screen.specs.declared.renditions.RenditionChange.TheVariants.{Revealed, Foreground, Background}
pub use Rattle.vt_screen.specs.Rendition.{change_of, changed, changed_if, rendered, all_rendered}
