pub mod FurtherFacts
pub mod Params
pub mod Listings
pub mod Expansions
pub mod Colons
pub mod Comparisons
pub mod FeedFacts
