-- The definitions that the crate's promises name.
pub mod Answers
pub mod GroupRows
pub mod Lookup
pub mod Members
pub mod Numbers
pub mod Prepared
