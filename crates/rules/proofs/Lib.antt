mod Turns
mod Checking
mod Runs
