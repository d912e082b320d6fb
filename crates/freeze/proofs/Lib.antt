mod Adding
mod Sums
mod Marks
