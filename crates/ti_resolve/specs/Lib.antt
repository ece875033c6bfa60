pub mod Fills
pub mod Uses
pub mod Index
pub mod Walk
pub mod Resolved
pub mod Faults
pub mod Origins
pub mod FaultyUses
