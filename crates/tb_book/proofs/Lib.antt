pub mod RateLineLemmas
pub mod CallerLemmas
pub mod KeyLemmas
pub mod IndexLemmas
pub mod ApartLemmas
pub mod ListedLemmas
pub mod StoredLemmas
