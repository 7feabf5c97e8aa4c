pub mod EveryByte
pub mod Bits
pub mod Numbered
pub mod Pieces
pub mod Codec
pub mod Written
pub mod Meant
