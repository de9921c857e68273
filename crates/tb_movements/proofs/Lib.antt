pub mod SumLemmas
pub mod HistoryLemmas
pub mod MarkLemmas
pub mod ConservationLemmas
pub mod LookUpLemmas
pub mod TellingLemmas
pub mod CreditLemmas
pub mod TranslationLemmas
