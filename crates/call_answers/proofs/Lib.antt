-- The laws that the proofs of calls for a unit share.
pub mod Answers
pub mod Values
