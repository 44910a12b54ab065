-- The definitions that the crate's promises name.
pub mod Calls
mod Examples
pub mod Steps
