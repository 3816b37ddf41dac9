-- Laws about the definitions of specs/. Crates above cite Promises alone.
mod Bitwise
mod Schedule
mod Example
pub mod Promises
