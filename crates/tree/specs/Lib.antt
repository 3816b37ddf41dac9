-- What a reader must believe of this crate: what a collision is; then, in the order of RFC 9162, section 2.1: the split, the tree with its
-- paths, their counts, hashes joined in a buffer, the roots that paths yield; then document 01's verdicts and builders on bytes; then what
-- is proved of them: the RFC's equations and the claims.
pub mod Limits
pub mod Collision
pub mod Split
pub mod Tree
pub mod Count
pub mod Joined
pub mod Yield
pub mod Verdict
pub mod Build
pub mod Full
pub mod Equations
pub mod Claims
