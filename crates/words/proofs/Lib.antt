-- Laws about words, lists of them, and block steps. Crates above may cite all.
pub mod Bitwise
pub mod Growing
pub mod Promises
