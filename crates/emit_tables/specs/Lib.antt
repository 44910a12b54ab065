-- The definitions that the contracts name beside those of `lower_units` and `plan_members`.
pub mod Heads
pub mod Tables
