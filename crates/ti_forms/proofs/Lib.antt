mod Digits
pub mod FormEffects
pub mod FormRuns
pub mod FormSends
pub mod LineTexts
mod Sequences
