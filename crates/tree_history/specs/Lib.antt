pub mod Whole
pub mod Call
pub mod Run
pub mod May
pub mod Room
pub mod Names
pub mod Held
