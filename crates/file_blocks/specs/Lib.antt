-- The definitions that the crate's promises name, in the order of document 01.
pub mod Refusal
pub mod Parse
pub mod Read
pub mod Checked
pub mod Address
pub mod Examples
