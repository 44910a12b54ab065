-- The laws that the functions' proofs share.
pub mod ListOrder
pub mod Putting
mod Reading
mod Telling
