-- The laws that the functions' proofs, and those of the crates above, share.
pub mod Sorted
pub mod Ordered
pub mod Rising
pub mod Finding
pub mod Members
pub mod Reading
mod Digits
mod Slices
mod Gathering
mod Whole
