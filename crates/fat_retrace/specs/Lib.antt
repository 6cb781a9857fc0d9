pub mod History
pub mod Ends
pub mod Inner
pub mod Promise
pub mod Within
