pub mod Opens
pub mod Record
pub mod Step
