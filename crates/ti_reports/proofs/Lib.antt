pub mod FieldFacts
pub mod FirstFacts
pub mod NameFacts
mod NameParts
pub mod ReportFacts
pub mod ShownFacts
pub mod SpelledFacts
