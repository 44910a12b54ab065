-- The laws that proofs cite.
mod Kept
mod Numbers
