-- The definitions that the crate's promises name: Page and Claims say what document 02 says of
-- pages, Calls what the calls make and leave, Steps what the steps of the code need.
pub mod Calls
pub mod Claims
mod Examples
pub mod Page
pub mod Steps
