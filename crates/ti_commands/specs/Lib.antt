pub mod Listings
pub mod Expansions
pub mod Further
pub mod Findings
pub mod Replies
pub mod Sources
pub mod Feeds
pub mod States
