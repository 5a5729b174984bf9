pub mod Calls
pub mod Mending
pub mod ReplayLaws
pub mod View
