pub mod Bytes
pub mod Counted
pub mod Entries
pub mod Images
pub mod Mirrored
pub mod Pieces
pub mod Since
pub mod Undoing
mod Named
