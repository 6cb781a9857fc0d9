pub mod Listed
pub mod Shares
