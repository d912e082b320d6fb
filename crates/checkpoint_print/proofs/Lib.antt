mod FrozenLines
mod KeptLines
mod Parts
mod Taken
