mod Access
pub mod Codec
pub mod Written
