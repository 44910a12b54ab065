-- The definitions that the crate's promises name: Calls and Claims say what document 02 says, Steps
-- what a step of the code answers.
pub mod Calls
pub mod Claims
mod Examples
pub mod Steps
