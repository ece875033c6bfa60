-- The definitions of the commands that read a certificate.
pub mod Faults
pub mod Verifications
pub mod Held
pub mod Stores
pub mod Through
pub mod Shows
pub mod Preparations
pub mod Scripts
pub mod Commands
