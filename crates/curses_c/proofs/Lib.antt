mod Alone
mod Looses
mod Making
pub mod Places
mod Reaching
pub mod Rows
mod Slots
mod Told
mod Openings
