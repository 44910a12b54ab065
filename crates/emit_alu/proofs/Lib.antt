-- The laws that the functions' proofs share.
mod Texts
pub mod Bodies
