pub mod Starting
pub mod Returning
