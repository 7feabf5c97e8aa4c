pub mod Making
pub mod Sweeping
pub mod Stages
pub mod Parking
pub mod Posting
pub mod Waking
pub mod Receiving
pub mod Stopping
pub mod Releasing
pub mod Forwarding
pub mod Leaving
pub mod Addressing
pub mod Claiming
pub mod Installing
pub mod WayBack
pub mod Theorems
mod Cases
