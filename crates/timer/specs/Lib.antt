pub mod Timer
pub mod Writes
pub mod Claims
