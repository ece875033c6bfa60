-- The definitions of scripts: texts that spell calls.
pub mod Arguments
pub mod Cells
pub mod Cuts
pub mod Numbers
pub mod Table
pub mod Takers
pub mod Texts
pub mod Words
pub mod Names
