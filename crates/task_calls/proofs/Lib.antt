mod Searches
mod Naming
mod Cancelling
