pub mod Queue
pub mod Chain
pub mod Seek
