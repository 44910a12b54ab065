-- The definitions that the crate's promises name: Listing and Calls say what document 01 says,
-- Steps what the steps of the code need.
pub mod Calls
mod Examples
pub mod Listing
pub mod Steps
