use Rattle.std.proofs.Common.{◌≡◌, ap, ◌∙◌}
use Rattle.tb_words.proofs.OneCommandLemmas.{one_command}
use Rattle.tb_words.specs.declared.command.Command.{Command}
use Rattle.tb_host.specs.Commands.{ends_at_fault, uses_of}
use Rattle.tb_host.proofs.HostLemmas.{EndsAs-asked, EndsAs-known, EndsAs-memory}
use Rattle.tb_host.proofs.host.any_command.Goals as goal

pub returns-in-Ok-clause-ends : goal.returns-in-Ok-clause-ends
returns-in-Ok-clause-ends g c = λ said are.
    EndsAs-asked g.G.Gate.gate g.G.Conn.Source.source g.G.Conn.Sink.sink (g.C.Clock.clock c.args.clock) _
    c.in-Ok.command said c.do_command.result.0 _ _ c.in-Ok.ensures.command are c.do_command.ensures.ends

pub returns-in-Ok-clause-unread : goal.returns-in-Ok-clause-unread
returns-in-Ok-clause-unread g c = λ said are stops unopened.
    c.do_command.ensures.unread
    (ap ends_at_fault (one_command _ c.in-Ok.command said c.in-Ok.ensures.command are) ∙ stops) unopened

pub returns-clause-ends : goal.returns-clause-ends
returns-clause-ends g c = λ said are.
    EndsAs-memory g.G.Gate.gate g.G.Conn.Source.source g.G.Conn.Sink.sink (g.C.Clock.clock c.args.clock) said _

-- the command that was read is the one that was said
pub returns-in-Ok-clause-uses : goal.returns-in-Ok-clause-uses
returns-in-Ok-clause-uses g c = λ said are.
    let same : c.in-Ok.command ≡ said = one_command _ c.in-Ok.command said c.in-Ok.ensures.command are in
    let uses = c.do_command.ensures.uses in (
      λ unused. uses.0 (ap (λ (command : Command). (uses_of command).input) same ∙ unused),
      λ unused. uses.1 (ap (λ (command : Command). (uses_of command).out) same ∙ unused),
      λ unused. uses.2 (ap (λ (command : Command). (uses_of command).disk) same ∙ unused),
      λ unused. uses.3 (ap (λ (command : Command). (uses_of command).spare) same ∙ unused),
      λ unused. uses.4 (ap (λ (command : Command). (uses_of command).gates) same ∙ unused),
      λ unused. uses.5 (ap (λ (command : Command). (uses_of command).keeper) same ∙ unused),
    )

-- no command ends as other words do
pub returns-in-Ok-clause-untouched : goal.returns-in-Ok-clause-untouched
returns-in-Ok-clause-untouched g c = λ usage.
    absurd (EndsAs-known g.G.Gate.gate g.G.Conn.Source.source g.G.Conn.Sink.sink (g.C.Clock.clock c.args.clock)
    c.in-Ok.command c.do_command.result.0 _ _ c.do_command.ensures.ends usage)
