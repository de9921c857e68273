pub mod AddedLemmas
pub mod FindLemmas
pub mod CalendarLemmas
pub mod BehindLemmas
pub mod UnsettledLemmas
pub mod ReportLemmas
pub mod BidLemmas
