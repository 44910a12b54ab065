-- The laws that the functions' proofs share.
pub mod Components
pub mod Cutting
pub mod Edges
pub mod GroupLaws
mod Grouping
mod Joining
mod Lending
mod Linking
mod Numbering
mod Ordering
pub mod PlanLength
mod Tails
