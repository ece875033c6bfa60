pub mod PartFacts
pub mod Gathered
pub mod StepFacts
