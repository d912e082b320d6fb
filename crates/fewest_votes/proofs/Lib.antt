mod FrontsFound
mod Orders
mod Reached
mod Ranked
mod Taken
