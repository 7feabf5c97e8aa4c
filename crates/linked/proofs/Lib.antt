pub mod Says
pub mod Tests
pub mod Listings
pub mod Running
pub mod Chosen
pub mod Boards
pub mod Converting
pub mod Theorems
