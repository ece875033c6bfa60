-- The terminal, and the facts about an entry that a certificate shows.
pub use Rattle.vt_term.specs.Ends
pub use Rattle.vt_term.specs.Screen
pub use Rattle.vt_term.specs.Size
pub use Rattle.ti_conforms.specs.Certified
pub use Rattle.ti_conforms.specs.Conforms
pub use Rattle.ti_conforms.specs.CupReach
