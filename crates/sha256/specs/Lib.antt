-- What a reader must believe of this crate, in the order of FIPS 180-4: SHA-256's block step (4.1.2, 4.2.2, 5.3.3, 6.2.2), and what is claimed of it. What
-- the public functions answer and leave is said by the definitions of the crate words, for a schedule of 64 words.
pub mod Sha256
pub mod Claims
pub mod Inner
