-- The laws that the functions' proofs share.
mod Blocks
pub mod Lengths
