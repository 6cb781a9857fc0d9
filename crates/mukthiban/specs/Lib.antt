pub mod Export
pub mod Name
pub mod Opening
