-- The laws that the functions' proofs share.
pub mod Lines
mod Listed
pub mod PopText
pub mod Offsets
