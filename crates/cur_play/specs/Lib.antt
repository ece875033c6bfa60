-- The definitions of playing calls.
pub mod Scenes
pub mod Windows
pub mod Steps
pub mod Groups
pub mod StaleMarks
pub mod Outputs
pub mod Drawings
pub mod Sends
pub mod Log
pub mod Deliveries
pub mod Runs
