-- The proofs of what the text of blocks and of a file means.
pub mod Closing
pub mod Shells
pub mod Covered
pub mod Quiet
pub mod Carried
pub mod Blocks
pub mod Supposed
pub mod State
pub mod Meaning
