mod Cuts
mod Moments
mod Endings
