pub mod Ranking
pub mod Machine
pub mod Clockwork
pub mod Claims
