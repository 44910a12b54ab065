-- The laws that the functions' proofs, and those of the crates above, share.
pub mod Overlay
pub mod Numerals
pub mod Printers
pub mod Laws
pub mod Lengths
pub mod FirstDigits
