pub mod Links
pub mod Change
