pub mod Settled
pub mod Touched
pub mod Claims
