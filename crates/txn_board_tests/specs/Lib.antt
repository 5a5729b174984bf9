pub mod Sure
pub mod Taken
