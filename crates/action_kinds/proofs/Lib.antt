mod Trees
mod Members
mod Printing
mod Quiet
mod Updates
mod Actions
mod LineLaws
mod PartLaws
