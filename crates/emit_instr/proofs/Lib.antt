-- The laws by which the text of a block is put together, and those that the functions' proofs
-- share.
pub mod Onward
pub mod Steps
pub mod Texts
mod Chosen
mod Operations
mod Lined
