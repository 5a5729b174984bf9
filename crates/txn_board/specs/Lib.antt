pub mod Words
pub mod Rows
pub mod Rule
pub mod Calls
pub mod Seen
