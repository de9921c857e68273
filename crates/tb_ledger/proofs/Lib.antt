pub mod AccountLemmas
pub mod CreditingLemmas
