-- The definitions that the crate's promises name: Calls says what the calls make and leave, Steps
-- what a step of the code answers.
pub mod Calls
mod Examples
pub mod Steps
