-- The laws that the functions' proofs share.
pub mod Bounded
pub mod Cuts
pub mod Fitted
pub mod Written
