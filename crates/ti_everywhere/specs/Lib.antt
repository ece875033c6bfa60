pub mod Checks
pub mod Lines
pub mod Surveys
