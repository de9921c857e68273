use Rattle.tb_host.proofs.FollowHeadlineLemmas.{FollowHeadline-broken, FollowHeadline-taken}
use Rattle.tb_host.proofs.laws.follow_headline.Goals as goal

pub returns-clause-taken : goal.returns-clause-taken
returns-clause-taken c = FollowHeadline-taken

pub returns-clause-broken : goal.returns-clause-broken
returns-clause-broken c = FollowHeadline-broken
