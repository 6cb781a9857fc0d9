pub mod Fitting
pub mod Kiosk
pub mod Means
pub mod Theorems
pub mod Examples
