pub mod BidRule
