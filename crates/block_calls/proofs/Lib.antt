mod Search
pub mod Claiming
