-- The laws of the tree and of its text that the crates above share.
pub mod Preamble
pub mod Laws
pub mod Lengths
pub mod Clean
pub mod Skeleton
pub mod Statements
