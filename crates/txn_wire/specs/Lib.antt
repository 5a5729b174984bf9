pub mod Forms
pub mod Lines
pub mod Replies
pub mod Short
pub mod Values
