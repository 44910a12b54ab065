-- The ways through the units of a file, and the claim on them (demand 3).
pub mod Ways
pub mod Claim
pub mod Demand3
pub mod Applies
