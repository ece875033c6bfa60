pub mod Parts
pub mod Findings
pub mod Remedies
pub mod Steps
pub mod Reasons
pub mod Mended
