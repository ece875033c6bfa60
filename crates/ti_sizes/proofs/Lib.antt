pub mod StartFacts
pub mod StepFacts
pub mod TokenFacts
pub mod Walks
pub mod Narrowed
pub mod Fewer
pub mod Taught
pub mod Opens
