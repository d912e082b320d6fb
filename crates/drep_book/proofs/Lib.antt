pub mod NoneAdded
