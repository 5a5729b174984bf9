pub mod Dealing
pub mod Shown
pub mod Taking
