pub mod AnnounceLemmas
pub mod EqualLemmas
pub mod RedeemLemmas
