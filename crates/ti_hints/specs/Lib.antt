pub mod Carets
pub mod Places
