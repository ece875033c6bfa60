pub mod Paddings
pub mod Weights
pub mod Advices
pub mod Texts
pub mod Notes
pub mod Delivery
pub mod Repairs
pub mod Entries
