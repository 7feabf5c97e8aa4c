pub mod Cases
pub mod Faults
pub mod Theorems
pub mod Histories
