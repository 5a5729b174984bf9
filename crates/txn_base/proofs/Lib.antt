pub mod Laws
pub mod Logs
pub mod Moments
pub mod Puts
pub mod Unique
