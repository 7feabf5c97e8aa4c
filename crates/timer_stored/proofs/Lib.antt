pub mod Returns
pub mod Theorems
