-- The eight colors.
pub use Rattle.vt_screen.specs.Color.{color_number, color}
pub use Rattle.vt_screen.specs.declared.renditions.Color.{Color}
pub use Rattle.vt_screen.specs.declared.renditions.Color.TheVariants.{Black, Red, Green, Yellow, Blue, Magenta, Cyan}
pub use Rattle.vt_screen.specs.declared.renditions.Color.TheVariants.{White}
