-- The definitions that the contracts of the printers name.
pub mod Digits
pub mod Doc
pub mod Flat
pub mod Wrote
pub mod Examples
