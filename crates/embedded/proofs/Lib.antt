mod Cut
mod Appended
mod Told
mod Verdicts
mod Written
