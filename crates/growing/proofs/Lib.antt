-- The laws, one subject a file, each from those above it; crates above cite them. The proofs of the functions are in the folders.
pub mod Stepping
pub mod Holding
pub mod Adding
pub mod OfHash
pub mod Accepting
pub mod Calling
pub mod Showing
pub mod Numbering
pub mod Every
