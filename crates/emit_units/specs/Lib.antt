-- The definitions that the crate's promises name: Texts says what some units are together, Units and
-- Fronts what a step of the code answers.
pub mod Bounds
pub mod Fronts
pub mod Texts
pub mod Units
