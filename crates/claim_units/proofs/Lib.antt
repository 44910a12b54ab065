-- The theorem that calls which write units cite.
pub mod Claims
