-- What the code is told of reasons and of unconditional exits, by the kind of an operation.
pub mod Formless
pub mod Leaving
pub mod Pops
