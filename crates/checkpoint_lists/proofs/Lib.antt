mod PotsLaws
mod RowLaws
mod Worlds
