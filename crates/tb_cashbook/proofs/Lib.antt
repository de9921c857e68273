pub mod CashbookLemmas
pub mod MeaningLemmas
