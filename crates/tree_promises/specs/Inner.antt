pub mod Ready
pub mod Opening
