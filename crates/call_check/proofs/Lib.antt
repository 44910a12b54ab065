-- What is proved of the check beside its promise.
mod Exactly
