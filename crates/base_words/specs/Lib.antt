-- Operations on the bits of numbers.
pub mod Word
