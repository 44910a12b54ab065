-- The laws that the functions' proofs share.
mod Interleaved
