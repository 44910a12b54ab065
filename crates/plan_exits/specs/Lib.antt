-- The definitions that the crate's promises name: Exits says what document 01 says, Found what a
-- step of the code answers.
pub mod Examples
pub mod Exits
pub mod Found
