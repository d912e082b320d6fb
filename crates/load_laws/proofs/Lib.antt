mod Line
mod Begins
mod Lengths
