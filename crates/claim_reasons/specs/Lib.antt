-- What is claimed of the sentences.
pub mod Claims
mod Examples
pub mod InterpCalls
pub mod Reader
