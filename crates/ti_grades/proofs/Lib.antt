pub mod Sends
pub mod Lists
pub mod BehindSigns
pub mod Sets
