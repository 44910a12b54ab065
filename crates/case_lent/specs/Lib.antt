-- The definitions that promises on vectors name.
pub mod Left
pub mod Lent
pub mod Told
