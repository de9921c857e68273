pub mod FindLemmas
pub mod NameLemmas
pub mod ChangeLemmas
pub mod ReadyLemmas
pub mod SumsLemmas
