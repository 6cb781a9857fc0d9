pub mod Field
pub mod View
pub mod Steps
pub mod Chain
