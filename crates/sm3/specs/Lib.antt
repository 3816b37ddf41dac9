-- What a reader must believe of this crate, in the order of GB/T 32905-2016: SM3's block step (4.1 to 4.4, 5.3.2, 5.3.3), the example of its appendix A.1,
-- and what is claimed of the step. What the public functions answer and leave is said by the definitions of the crate words, for a schedule of 132 words.
pub mod Sm3
pub mod Example
pub mod Claims
pub mod Inner
