-- The definitions of painters.
pub mod Inks
pub mod Shift
pub mod Painters
pub mod Beep
pub mod Differ
