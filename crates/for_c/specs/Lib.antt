pub mod Packed
pub mod Asked
pub mod Claims
