-- The laws of pieces that fit.
pub mod Laws
