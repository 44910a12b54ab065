-- The laws of operations on bits.
pub mod Bits
