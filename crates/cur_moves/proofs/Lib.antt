pub mod Blanks
pub mod Fewest
pub mod Gaps
pub mod MoveFacts
pub mod FrameFacts
pub mod Shifts
