pub mod PieceLemmas
pub mod LineLemmas
pub mod ReaderLemmas
pub mod ReadsLemmas
