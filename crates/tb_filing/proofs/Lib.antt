pub mod RowLemmas
pub mod PublishedLemmas
pub mod FilingLemmas
pub mod FitsLemmas
pub mod SameLemmas
pub mod TextLemmas
pub mod TellingLemmas
pub mod PutLemmas
