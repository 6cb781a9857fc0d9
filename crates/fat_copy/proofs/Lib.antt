pub mod Copied
pub mod InRow
pub mod Puts
pub mod Carries
pub mod Gives
