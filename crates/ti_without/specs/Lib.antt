pub mod Less
pub mod Rounds
pub mod Going
pub mod Without
