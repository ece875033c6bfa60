mod Filled
mod Looses
mod Positions
mod Slots
