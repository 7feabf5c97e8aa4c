mod Digits
mod Counted
