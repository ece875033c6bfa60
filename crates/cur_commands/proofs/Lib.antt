pub mod RunFacts
pub mod Answers
pub mod Endings
pub mod Verdicts
