-- The laws that the functions' proofs, and those of the crates above, share.
pub mod Short
