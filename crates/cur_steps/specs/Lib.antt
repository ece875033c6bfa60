-- The definitions of looks, beliefs and single steps.
pub mod Beliefs
pub mod Gaps
pub mod Grounds
pub mod Inks
pub mod Pieces
pub mod Sets
pub mod Singles
pub mod Steps
pub mod Stretches
pub mod Texts
pub mod Wire
pub mod Tape
pub mod Fuse
pub mod Counted
pub mod Leads
pub mod Paints
pub mod WireSteps
