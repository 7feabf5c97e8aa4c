pub mod Walking
pub mod Spots
