pub mod Contents
pub mod Layout
pub mod Legacy
pub mod Packed
pub mod Readings
pub mod Written
