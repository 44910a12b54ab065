-- The laws that the functions' proofs share.
mod Bodies
mod FormsFrom
mod Inside
mod Recording
mod Walking
