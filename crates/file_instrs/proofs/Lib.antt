-- The laws that the functions' proofs share.
mod Match
mod ByKind
mod Limits
