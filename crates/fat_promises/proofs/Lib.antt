pub mod Unique
pub mod May
pub mod ReadOnly
