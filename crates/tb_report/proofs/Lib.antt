pub mod Texts
pub mod PrintableLemmas
