pub mod Ranks
pub mod Caps
pub mod Whole
pub mod Places
pub mod Mends
pub mod Judged
pub mod Standing
