pub mod Changes
pub mod Moves
pub mod Effects
pub mod Answers
pub mod Calls
