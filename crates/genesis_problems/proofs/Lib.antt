pub mod Telling
pub mod Indexes
pub mod Listings
pub mod Firsts
pub mod Rules
