-- The definitions of windows and the virtual screen.
pub mod Copies
pub mod Desks
pub mod Laws
pub mod Loans
pub mod Creations
pub mod Pads
pub mod Queries
pub mod Refusals
pub mod Rows
pub mod Sizes
pub mod Views
pub mod Refreshes
pub mod TouchedWindows
