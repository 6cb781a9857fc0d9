pub mod Seats
pub mod Links
