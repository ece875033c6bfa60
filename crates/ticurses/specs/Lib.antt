-- The definitions of what the program does with files and reports.
pub mod Formed
pub mod Opened
pub mod Originals
