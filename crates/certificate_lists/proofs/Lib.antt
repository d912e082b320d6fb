mod HeadLaws
mod StakeLaws
mod Begun
mod RowLaws
mod ShownRows
mod Snapshots
