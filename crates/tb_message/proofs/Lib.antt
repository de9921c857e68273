pub mod Texts
pub mod Steps
pub mod FieldLaws
pub mod RecordLaws
pub mod Same
pub mod Ranges
pub mod OneRequest
pub mod PlainLemmas
