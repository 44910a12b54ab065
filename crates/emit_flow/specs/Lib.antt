-- The definitions that the contracts name beside those of `lower_units`.
pub mod Pieces
