pub mod Hash
pub mod Key
