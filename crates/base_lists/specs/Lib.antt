-- The definitions of lists that several floors use.
pub mod Interleave
pub mod Lists
