mod Masks
pub mod Groups
