-- The definitions of pads.
pub mod Laws
pub mod Creations
pub mod Ranges
pub mod Refusals
pub mod Displays
pub mod WindowPlaces
