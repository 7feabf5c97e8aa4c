pub mod Timing
pub mod Events
pub mod Claims
