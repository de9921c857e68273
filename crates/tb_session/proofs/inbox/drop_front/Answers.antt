-- What is kept is what stood behind.
use Rattle.std.proofs.Common.{◌≡◌, ◌-◌, subst, take, rules}
use Rattle.tb_session.proofs.InboxLemmas.{front-dropped}
use Rattle.tb_session.proofs.inbox.drop_front.Goals as goal

pub returns : goal.returns
returns c =
    front-dropped c.args.count _ c.args.bytes.now.items c.copy_within.new.self.items c.truncate.new.self.items
    c.requires.within (search rules) c.copy_within.ensures.items
    (subst (λ n. c.truncate.new.self.items ≡ take (n - c.args.count) c.copy_within.new.self.items) c.len.ensures
    c.truncate.ensures.items)
