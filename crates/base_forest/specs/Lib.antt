-- The definitions that the crate's promises name.
pub mod Forest
pub mod Roots
