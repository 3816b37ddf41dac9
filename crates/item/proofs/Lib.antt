pub mod Rows
pub mod Items
pub mod Naming
pub mod Trips
pub mod Every
pub mod Newest
pub mod Ordering
