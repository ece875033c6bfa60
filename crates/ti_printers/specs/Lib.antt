-- The definitions of the forms in which reports are printed.
pub mod Baselines
pub mod Escapes
pub mod Json
pub mod Paths
pub mod Sarif
