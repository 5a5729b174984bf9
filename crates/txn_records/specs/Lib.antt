pub mod Acks
pub mod Catalog
pub mod Coords
pub mod EndsRead
pub mod SnapshotLaws
pub mod Topics
