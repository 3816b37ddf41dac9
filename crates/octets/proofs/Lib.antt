pub mod Order
pub mod Sameness
pub mod Joining
pub mod Putting
pub mod Numbers
pub mod Refusals
