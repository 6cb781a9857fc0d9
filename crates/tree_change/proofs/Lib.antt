pub mod Changes
pub mod Renames
