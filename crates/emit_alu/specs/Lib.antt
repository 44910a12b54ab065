-- The definitions that the crate's promises name.
pub mod Texts
pub mod Processing
pub mod Multiply
