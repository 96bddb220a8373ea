pub mod inner
pub mod Relation
pub mod Stored
