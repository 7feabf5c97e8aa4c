pub mod Numbers
pub mod Status
pub mod Records
pub mod Places
pub mod Board
pub mod Claims
pub mod Writes
