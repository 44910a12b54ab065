-- The laws that the functions' proofs, and those of the crates above, share.
pub mod Accepted
pub mod Answers
pub mod Exactly
pub mod IsBlock
pub mod Keys
pub mod Nowhere
pub mod OwnKey
mod Passes
pub mod Ranges
pub mod ReadInstrs
pub mod ReadNext
mod Reading
pub mod Whole
