-- The definitions that the crate's promise names.
pub mod Calls
mod Examples
