pub mod Table
pub mod Item
pub mod Newer
pub mod Claims
pub mod Steps
