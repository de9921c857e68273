pub mod OrderLemmas
pub mod RowLemmas
pub mod TableLemmas
pub mod MemberLemmas
pub mod SortLemmas
pub mod RegisterLemmas
pub mod CallerLemmas
