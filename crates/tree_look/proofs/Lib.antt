pub mod Lists
pub mod Lives
pub mod Given
pub mod Opens
pub mod Lookups
pub mod Listings
