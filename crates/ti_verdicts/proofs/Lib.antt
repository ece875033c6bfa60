pub mod Parts
pub mod Listing
pub mod RowFacts
