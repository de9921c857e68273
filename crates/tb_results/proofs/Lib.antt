pub mod BookedLemmas
pub mod CutLemmas
pub mod FigureLemmas
pub mod AwardedLemmas
pub mod AmountLemmas
pub mod LegalLemmas
pub mod SampleLemmas
