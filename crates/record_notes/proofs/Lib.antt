mod Mapped
mod Names
mod Parts
mod Quiet
mod Known
mod Lined
mod Looks
mod Saying
