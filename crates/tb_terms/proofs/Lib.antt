pub mod EasternRule
pub mod CalendarFacts
pub mod EasternFacts
pub mod TextFacts
pub mod YearFacts
pub mod PayableFacts
pub mod SpellingFacts
pub mod RowLemmas
