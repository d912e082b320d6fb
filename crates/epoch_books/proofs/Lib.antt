mod Credits
mod Held
mod Refunds
mod Updates
