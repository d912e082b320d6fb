mod Plain
mod Certified
