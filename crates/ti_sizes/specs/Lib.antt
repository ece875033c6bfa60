pub mod EverySize
pub mod Steady
pub mod Lines
pub mod Answers
