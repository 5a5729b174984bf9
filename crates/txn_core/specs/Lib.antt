pub mod Together
pub mod Steps
pub mod Kept
pub mod Worlds
pub mod Tables
pub mod Reads
