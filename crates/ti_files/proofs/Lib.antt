pub mod Storings
pub mod WrappedReadings
pub mod WrappedStorings
