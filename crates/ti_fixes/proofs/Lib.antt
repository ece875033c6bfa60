pub mod Written
pub mod Changed
pub mod Lists
pub mod FileFacts
