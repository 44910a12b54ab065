-- The definitions that the program's promises name.
pub mod Output
