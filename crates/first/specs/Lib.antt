-- What a reader must believe of this crate, in reading order: the table, the structures as RFC 6962 writes them, reading and writing, and what is proved.
pub mod Table
pub mod Structures
pub mod First
pub mod Claims
pub mod Steps
