-- The laws, one subject a file, each from those above it; crates above cite them. The proofs of the functions are in the folders.
pub mod Splitting
pub mod Rfc
pub mod Counting
pub mod Digits
pub mod Halving
pub mod Full
pub mod Joining
pub mod Answering
pub mod Yielding
pub mod Completing
pub mod Parting
pub mod Accepting
pub mod Building
pub mod Enums
