pub mod Switchings
pub mod Endings
pub mod Answered
pub mod Shown
pub mod Characters
pub mod Counting
pub mod Unknown
pub mod Finding
