pub mod Answers
pub mod Stepping
pub mod Timing
pub mod Fitted
