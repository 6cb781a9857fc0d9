pub mod Bytes
pub mod Named
pub mod Made
