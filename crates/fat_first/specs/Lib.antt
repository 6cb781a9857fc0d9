pub mod Firsts
pub mod Calls
pub mod Runs
pub mod Inner
