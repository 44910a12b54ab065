-- The claims that every call which writes units carries.
pub mod Claims
