pub mod Lacks
pub mod RowFaults
pub mod Standard
pub mod Candidates
pub mod Mended
pub mod AllFaults
pub mod Remedies
