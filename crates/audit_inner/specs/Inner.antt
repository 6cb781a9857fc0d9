-- What the functions inside the audit ask for and say. No promise needs it.
pub mod Marks
