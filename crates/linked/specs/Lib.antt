pub mod Linked
pub mod Sound
pub mod Claims
