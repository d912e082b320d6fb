mod Sound
mod Counting
mod Kept
