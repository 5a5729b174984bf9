pub mod Laws
pub mod Allowed
pub mod Fronts
pub mod Replayed
pub mod BatchRecords
