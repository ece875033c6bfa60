-- The definitions of files, of what they are read as, and of failures.
pub mod Contents
pub mod Failures
pub mod Refusals
pub mod Status
pub mod Words
pub mod Sizes
pub mod Wrapped
pub mod WrappedLaws
pub mod Fronts
pub mod Remarks
pub mod Shown
