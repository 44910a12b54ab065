-- The definitions that the contracts name beside those of `lower_forms` and `lower_units`.
pub mod Onward
pub mod Steps
