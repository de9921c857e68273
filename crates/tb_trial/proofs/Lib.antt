pub mod BidderLemmas
pub mod AnnouncedLemmas
pub mod StatedLemmas
pub mod TrialLemmas
