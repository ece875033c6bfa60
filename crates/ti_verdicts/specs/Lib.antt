-- The definitions of the commands about certificates.
pub mod Checks
pub mod NoteTexts
pub mod Starts
pub mod FaultRuns
pub mod Remedies
pub mod FaultLists
pub mod Counts
pub mod Parts
pub mod AnswerNames
pub mod FaultAnswers
pub mod Refusals
pub mod Excerpts
pub mod Rows
pub mod Locations
pub mod SourceFiles
