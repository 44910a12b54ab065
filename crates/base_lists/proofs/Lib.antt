-- The laws of lists that several floors use.
pub mod Bools
pub mod Counts
pub mod Each
pub mod Firsts
pub mod Order
pub mod Pieces
pub mod Places
pub mod Range
