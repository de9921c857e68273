pub mod Moments
pub mod Noting
pub mod ImageLemmas
pub mod SentenceLemmas
