pub mod Field
pub mod Linked
pub mod Table
pub mod Agree
pub mod Steps
pub mod Chain
pub mod Cases
