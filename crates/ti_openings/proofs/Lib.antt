pub mod Sorting
pub mod Sessions
