-- The mathematics of the two passes, and the counts that they find.
pub mod Laws
pub mod Fragments
pub mod Joins
pub mod Ends
pub mod Cover
pub mod Counts
pub mod Wipes
