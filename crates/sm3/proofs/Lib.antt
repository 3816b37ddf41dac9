-- Laws about the definitions of specs/. Crates above cite Promises alone.
mod Bitwise
mod Expansion
mod Example
pub mod Promises
