pub mod Parts
pub mod RunFacts
