-- What a reader must believe of this crate: the limit, a growing tree's hashes level by level, what each call answers and leaves, by a hash and by
-- a number, lists of calls, and what is proved of them. What a full subtree is stands in the crate tree (specs/Full.antt).
pub mod Limits
pub mod Hashes
pub mod Calls
pub mod Claims
