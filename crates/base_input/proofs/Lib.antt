-- The law that proofs cite.
mod Filled
