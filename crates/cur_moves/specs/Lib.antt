-- The definitions of ways, erasures and scrolls.
pub mod Erasures
pub mod Moves
pub mod Routes
pub mod Frames
pub mod Scrolls
