pub mod CallerLemmas
pub mod ClockLemmas
