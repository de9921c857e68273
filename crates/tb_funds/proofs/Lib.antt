pub mod AmountLemmas
pub mod OfferLemmas
pub mod FundsLemmas
