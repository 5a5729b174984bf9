pub mod Fronts
pub mod Reading
pub mod Settling
pub mod Staged
