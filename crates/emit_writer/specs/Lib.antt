-- The definitions that the contracts name.
pub mod Ticks
pub mod Writer
