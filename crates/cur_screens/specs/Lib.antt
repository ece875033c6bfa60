-- The definitions of the virtual screen and of marks.
pub mod Slots
pub mod Marks
pub mod Differences
pub mod VirtualScreen
pub mod Touched
pub mod Copies
