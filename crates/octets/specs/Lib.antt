-- What a reader must believe of this crate: what a public function answers, byte strings and how they are written over others, big-endian numbers, the
-- limit of an item, and what is proved of them.
pub mod Answer
pub mod Refusals
pub mod Bytes
pub mod Numbers
pub mod Limits
pub mod Claims
