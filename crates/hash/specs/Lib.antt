-- What a reader must believe of this crate, in the order of FIPS 180-4: the padded message and its blocks (5.1.1, 5.2.1, 6.2), the hashes and their numbers,
-- the digest, what the public functions answer and leave, and what is claimed of its values. The block steps are the crates sha256's and sm3's.
pub mod Message
pub mod Algorithm
pub mod Digest
pub mod Answers
pub mod Claims
