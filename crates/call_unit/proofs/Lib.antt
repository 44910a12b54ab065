-- The laws that the functions' proofs share.
pub mod Answers
pub mod Claims
