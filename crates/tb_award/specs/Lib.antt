pub mod Limits
pub mod Recognition
pub mod Cuts
pub mod Awards
pub mod Room
pub mod Passes
pub mod Stops
