pub mod Joins
pub mod RunFacts
