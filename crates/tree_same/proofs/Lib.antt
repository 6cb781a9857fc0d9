pub mod Records
pub mod Same
pub mod Calls
pub mod Theorems
pub mod Full
pub mod Histories
