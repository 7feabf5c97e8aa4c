pub mod Seeks
mod Addressing
