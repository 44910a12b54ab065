-- What the crate's proofs, and those of the crates above it, share.
pub mod Arms
pub mod RegisterList
