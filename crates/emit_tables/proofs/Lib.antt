-- The laws that the functions' proofs share, and those by which the pieces are put together.
pub mod Units
pub mod Around
