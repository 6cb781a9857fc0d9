-- What the functions inside the test ask for and say. No promise needs it.
pub mod Judge
