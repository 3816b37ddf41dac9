-- What a reader must believe of this crate: operations on words (FIPS 180-4, sections 2.2.2, 3.1 and 3.2; GB/T 32905-2016, section 3), sequences of
-- words, what a block step answers and leaves, and what is claimed of it.
pub mod Words
pub mod Known
pub mod Going
pub mod Answers
pub mod Claims
