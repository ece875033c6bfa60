pub mod Effect
pub mod Start
pub mod Record
pub mod Sound
pub mod Compose
pub mod Basic
pub mod Fits
pub mod Settings
