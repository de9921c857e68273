pub mod PositionLemmas
pub mod KeyLemmas
pub mod PlaceLemmas
pub mod FirstLemmas
pub mod EndLemmas
pub mod LinkLemmas
