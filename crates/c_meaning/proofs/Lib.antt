-- The laws of what C99 makes of the tree.
pub mod Append
pub mod Kept
pub mod Touches
