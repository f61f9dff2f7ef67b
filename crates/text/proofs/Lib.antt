-- Laws that the proofs cite.
pub mod Seeking
pub mod Spelling
pub mod Counting
pub mod Runs
pub mod Signs
pub mod Filled
pub mod Holding
