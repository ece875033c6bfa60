-- The definitions of surveys.
pub mod Answers
pub mod Heard
pub mod Kinds
pub mod Parts
pub mod Places
pub mod Shares
pub mod Strict
pub mod Surveys
pub mod Told
pub mod Together
pub mod Lines
pub mod Openings
pub mod Faultless
