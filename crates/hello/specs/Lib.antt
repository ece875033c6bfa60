-- The definitions of the greeting, and of the wire on which it is sent.
pub mod Console
pub mod Calls
pub mod Greeting
pub mod Displays
