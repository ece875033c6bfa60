pub mod Given
pub mod Texts
pub mod Cuts
pub mod Changes
pub mod Files
pub mod Among
