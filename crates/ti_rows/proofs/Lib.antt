pub mod StartFacts
pub mod WantFacts
pub mod Rightness
pub mod Alike
pub mod Answers
pub mod NameFacts
pub mod Readers
pub mod ListFacts
