pub mod CallerLemmas
pub mod NumberLemmas
pub mod RowLemmas
pub mod BidLemmas
