pub mod Codes
pub mod Sequences
pub mod FaultRuns
pub mod Functions
pub mod Odds
pub mod Grades
