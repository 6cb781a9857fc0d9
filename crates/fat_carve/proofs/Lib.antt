pub mod Totals
pub mod Relaid
pub mod Carves
pub mod Examples
