mod Lines
mod Since
mod HaveWords
mod Taken
