-- Laws about the definitions of specs/. Crates above cite Promises and Algorithms alone.
mod Padding
pub mod Algorithms
mod Refusals
pub mod Promises
