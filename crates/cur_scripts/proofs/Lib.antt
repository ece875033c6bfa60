pub mod Caps
pub mod CutFacts
pub mod Readers
pub mod Shorts
pub mod Taken
pub mod WordsLeft
