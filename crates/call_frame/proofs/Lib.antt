-- The laws that the proofs of calls share.
pub mod Opening
pub mod Pieces
pub mod Settling
