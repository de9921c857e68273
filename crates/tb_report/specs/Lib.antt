pub mod Lines
pub mod Terms
pub mod Results
pub mod Lists
pub mod Readings
