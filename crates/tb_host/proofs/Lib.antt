mod SealedLemmas
mod OneHistoryLemmas
mod HeadlineLemmas
mod ServeLemmas
mod ServeHostLemmas
mod CauseLemmas
mod LackedLemmas
mod HostLemmas
mod AnsweredLemmas
mod ScriptHeadlineLemmas
mod OwnLineLemmas
mod ImportHeadlineLemmas
mod OwnRowLemmas
mod FollowHeadlineLemmas
mod ChainLemmas
pub mod PlanLemmas
