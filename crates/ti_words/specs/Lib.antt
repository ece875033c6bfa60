-- Numbers and bytes in messages.
pub mod Numbers
pub mod Runs
pub mod Seen
pub mod Starts
pub mod Wanted
