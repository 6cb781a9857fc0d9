pub mod Sound
pub mod Chain
pub mod Layout
pub mod Steps
pub mod Holds
pub mod Counts
pub mod Agree
pub mod Changes
