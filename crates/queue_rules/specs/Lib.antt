pub mod Walks
pub mod Queues
