-- The definitions that the crate's promises name.
pub mod UnitCases
