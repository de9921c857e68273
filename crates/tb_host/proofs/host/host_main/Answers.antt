use Rattle.std.proofs.Common.{sym, ap, ◌∙◌}
use Rattle.tb_commands.specs.Endings.{status_of}
use Rattle.tb_commands.proofs.EndingLemmas.{memory-at_9, unopened-by_status, usage-at_2}
use Rattle.tb_host.proofs.HostLemmas.{Completes-here, reports-as}
use Rattle.tb_host.proofs.LackedLemmas.{HidesNoFault-here}
use Rattle.tb_host.proofs.host.host_main.Goals as goal

pub returns-clause-ends : goal.returns-clause-ends
returns-clause-ends g c = λ said are. record {
  ended = c.any_command-ending.result.0;
  status_is = c.status.ensures;
  told = c.tell.ensures;
  holds = c.any_command-ending.ensures.ends said are;
}

pub returns-clause-complete : goal.returns-clause-complete
returns-clause-complete g c = λ said are. record {
  ended = c.any_command-ending.result.0;
  status_is = c.status.ensures;
  told = c.tell.ensures;
  holds = Completes-here g.G.Gate.gate g.G.Conn.Source.source g.G.Conn.Sink.sink (g.C.Clock.clock c.args.clock) said
      c.any_command-ending.result.0 _ _ (c.any_command-ending.ensures.ends said are);
}

pub returns-clause-causes : goal.returns-clause-causes
returns-clause-causes g c = record {
  ended = c.any_command-ending.result.0;
  status_is = c.status.ensures;
  told = c.tell.ensures;
  holds = c.any_command-ending.ensures.causes;
}

pub returns-clause-unread : goal.returns-clause-unread
returns-clause-unread g c = λ said are stops ended unopened is.
    c.any_command-ending.ensures.unread said are stops
    (unopened-by_status c.any_command-ending.result.0 ended (sym c.status.ensures ∙ is) unopened)

pub returns-clause-usage : goal.returns-clause-usage
returns-clause-usage g c = (
  λ is. c.any_command-ending.ensures.usage.0 (usage-at_2 c.any_command-ending.result.0 (sym c.status.ensures ∙ is)),
  λ none. c.status.ensures ∙ ap status_of (c.any_command-ending.ensures.usage.1 none),
)

pub returns-clause-untouched : goal.returns-clause-untouched
returns-clause-untouched g c = λ is.
    let usage = usage-at_2 c.any_command-ending.result.0 (sym c.status.ensures ∙ is) in
    let left = c.any_command-ending.ensures.untouched usage in (
      reports-as c.any_command-ending.result.0 _ _ _ usage c.tell.ensures,
      left.0,
      left.1,
      left.2,
      left.3,
      left.4,
      left.5,
    )

pub returns-clause-lacked : goal.returns-clause-lacked
returns-clause-lacked g c = λ said are is.
    let uses = c.any_command-ending.ensures.uses said are in
    let memory = memory-at_9 c.any_command-ending.result.0 (sym c.status.ensures ∙ is) in
    HidesNoFault-here g.G.Gate.gate g.G.Conn.Source.source g.G.Conn.Sink.sink (g.C.Clock.clock c.args.clock) _ _ said
    g.K.Keeper.counts_failures c.any_command-ending.result.0 memory (c.any_command-ending.ensures.ends said are)
    c.any_command-ending.ensures.causes (
      λ none. ap g.D.Disk.disk (uses.2 none),
      λ none. ap g.D.Disk.disk (uses.3 none),
      λ none. ap (λ gates. gates.items) (uses.4 none),
    ) (λ sure. c.any_command-ending.ensures.kept sure memory)
