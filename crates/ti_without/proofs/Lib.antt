pub mod Less
pub mod Leaves
pub mod Ends
