pub mod Slips
pub mod NamedCases
pub mod Notches
mod Served
mod Samplers
mod Timers
pub mod Rows
pub mod Which
pub mod Theorems
pub mod Naming
pub mod Histories
