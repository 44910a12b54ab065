-- The definitions that the crate's promises name.
pub mod Input
pub mod Lines
pub mod Same
pub mod Told
