pub mod Visits
pub mod Counting
pub mod Lists
pub mod Turns
pub mod Walking
pub mod Places
mod Lengths
pub mod Breaking
