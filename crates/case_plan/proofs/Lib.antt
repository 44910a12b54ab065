-- The laws that proofs cite.
mod Gathered
