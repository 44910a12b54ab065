-- The laws that proofs cite.
mod Printed
pub mod Same
mod Words
