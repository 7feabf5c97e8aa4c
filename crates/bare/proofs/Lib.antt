pub mod Bits
pub mod Tasks
pub mod Reading
pub mod Writing
pub mod Installing
pub mod Calls
