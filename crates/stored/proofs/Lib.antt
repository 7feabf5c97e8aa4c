pub mod Comes
mod Behind
pub mod Links
mod Queues
mod Order
pub mod Bodies
pub mod Next
mod Calls
pub mod Theorems
