pub mod Table
pub mod Names
pub mod Fits
pub mod Entry
