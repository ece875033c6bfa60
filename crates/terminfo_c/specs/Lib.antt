pub mod Answers
pub mod Capabilities
pub mod Codes
pub mod Entries
pub mod Expansions
pub mod Handles
pub mod Parameters
pub mod Tables
