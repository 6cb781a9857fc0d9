-- What the passes say of the work list. No promise needs it.
pub mod Ring
pub mod Marks
