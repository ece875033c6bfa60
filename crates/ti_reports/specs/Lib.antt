-- The definitions of the reports.
pub mod Checks
pub mod Explanations
pub mod Faults
pub mod Findings
pub mod Forms
pub mod Hints
pub mod Lacks
pub mod Names
pub mod Reports
pub mod Openings
pub mod Sizes
pub mod Sources
pub mod Spellings
pub mod Suggestions
pub mod Surveys
pub mod Texts
