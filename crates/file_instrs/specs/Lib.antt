-- The definitions that the crate's promises name, in the order of document 01.
pub mod Kind
pub mod InstrRecord
pub mod Decode
pub mod Limits
