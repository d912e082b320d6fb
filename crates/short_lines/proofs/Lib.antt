mod Chosen
mod InPriority
