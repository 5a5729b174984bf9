-- The door: what other crates take of this crate's proofs, by subject.
pub mod Tests
pub mod Lists
pub mod Names
pub mod Logs
pub mod Topics
pub mod Worlds
pub mod Files
pub mod Grants
pub mod States
pub mod Replies
