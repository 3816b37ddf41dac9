pub mod Lines
pub mod Wholes
pub mod Trips
pub mod Encoding
pub mod Refusals
pub mod Saying
pub mod Every
