-- The definitions that the crate's promises name: Plan and Limit say what document 01 says, the
-- others what the steps of the code do.
pub mod Groups
pub mod Limit
pub mod Links
pub mod Order
pub mod Plan
