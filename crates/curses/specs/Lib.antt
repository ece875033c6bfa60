-- The words in which the clauses of the library are stated, for clauses of programs.
pub mod Terminals
pub mod Windows
pub mod Painters
pub mod Sessions
