use Rattle.std.proofs.Common.{ap, ◌∙◌}
use Rattle.tb_link.specs.Sinks.{after_taken}
use Rattle.tb_commands.proofs.trial_command.trial.Goals as goal

pub returns-in-Ok-write-clause-ends : goal.returns-in-Ok-write-clause-ends
returns-in-Ok-write-clause-ends g c = record {
  text = c.in-Ok-trial_text.text.items;
  trial = record {
    figures = c.in-Ok.figures;
    are = c.in-Ok.ensures;
    is = c.in-Ok-trial_text.ensures;
  };
  taken = c.in-Ok-write.ensures.takes.taken
      ∙ ap (after_taken (g.O.Sink.sink c.args.out.now).taken) c.deref.ensures.value;
  no_fault = c.in-Ok-write.ensures.takes.no_fault;
}

pub returns-in-Ok-trial_text-clause-ends : goal.returns-in-Ok-trial_text-clause-ends
returns-in-Ok-trial_text-clause-ends g c =
    let fails = c.in-Err-write.ensures.fails in (
      fails.rose,
      record {
        text = c.in-Ok-trial_text.text.items;
        trial = record {
          figures = c.in-Ok.figures;
          are = c.in-Ok.ensures;
          is = c.in-Ok-trial_text.ensures;
        };
        taken = rw c.deref.ensures.value at fails.prefix;
      },
    )
