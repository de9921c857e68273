-- What was read so far.
use Rattle.std.proofs.Common.{◌≡◌, ◌-◌, List, ℕ, [], ◌++◌, length}
use Rattle.tb_gates.specs.Links.{link_of, Moved}
use Rattle.tb_session.specs.Inbox.{ReadsNoneAhead}
use Rattle.tb_session.proofs.receive.receive_request.Given as goal

-- these bytes were read so far, and none ahead
abbrev pub invariant-loop-request : goal.invariant-loop-request
invariant-loop-request g l =
    (read : List ℕ)
    × Moved (link_of g.K.Source.source g.K.Sink.sink l.initial.link)
    (link_of g.K.Source.source g.K.Sink.sink l.link) read []
    × (l.inbox ≡ l.initial.inbox ++ read)
    × ReadsNoneAhead (link_of g.K.Source.source g.K.Sink.sink l.initial.link)
    (link_of g.K.Source.source g.K.Sink.sink l.link) l.initial.inbox read

abbrev pub decreases-loop-request : goal.decreases-loop-request
decreases-loop-request g l = 12288 - length l.inbox
