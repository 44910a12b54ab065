-- The definitions that the crate's promises name: Order says what the order of keys is, the others
-- what the steps of the code do.
pub mod Order
pub mod First
pub mod Answers
pub mod Digits
pub mod Steps
mod Examples
