-- What is compared with a vector.
pub mod DecimalCases
