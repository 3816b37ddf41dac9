-- What a reader must believe of this crate, in reading order: answers with a place, reading by a layout, writing by it, what a writer leaves, what reading a
-- layout answers, a path's two forms, what is proved of them, and extensions with what is proved of their order.
pub mod Checked
pub mod Layout
pub mod Write
pub mod Effect
pub mod Answers
pub mod Path
pub mod Claims
pub mod Extensions
pub mod Inner
