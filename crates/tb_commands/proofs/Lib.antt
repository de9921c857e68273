pub mod CompleteLemmas
pub mod UniqueLemmas
pub mod OneTextLemmas
pub mod ScriptLineLemmas
pub mod SomeParcelLemmas
pub mod SomeScriptLemmas
pub mod TurnLemmas
pub mod GrownLemmas
pub mod DiskLemmas
mod ScriptLemmas
mod ScriptStepLemmas
pub mod EndingLemmas
mod HexLemmas
pub mod ScriptLawLemmas
pub mod OneRunLemmas
pub mod ExactLemmas
pub mod TrialLemmas
mod AnswerLemmas
pub mod RegisterLemmas
pub mod ReportLemmas
pub mod MigrateLemmas
mod ParcelInputLemmas
mod FollowSendLemmas
mod FollowTakeLemmas
mod ParcelTextLemmas
mod FollowGroupLemmas
pub mod FollowEndLemmas
pub mod CheckLemmas
pub mod WriteLemmas
mod TableLemmas
mod RowLemmas
pub mod ImportLemmas
pub mod ImportEndLemmas
pub mod DoubtedLemmas
