use Rattle.std.proofs.Common.{ap, refl, ◌∙◌}
use Rattle.tb_link.specs.Sinks.{after_taken}
use Rattle.tb_text_book.proofs.ReadLemmas.{LeavesOpen-book}
use Rattle.tb_commands.proofs.award_command.award.Goals as goal

pub returns-in-Ok-write-clause-ends : goal.returns-in-Ok-write-clause-ends
returns-in-Ok-write-clause-ends g c =
    let from = c.in-Ok.ensures.book in (
      record {
        no_fault = c.in-Ok.ensures.no_fault;
        told = λ bytes told. let read = from.read bytes told in record {
          text = c.in-Ok-award_text.text.items;
          run = record {
            offering = c.in-Ok.book.offering;
            book = from.book;
            begins = read.begins;
            award = c.in-Ok-award_text.ensures from.book from.is_kept;
          };
          reads = read.reads;
          taken = c.in-Ok-write.ensures.takes.taken
              ∙ ap (after_taken (g.O.Sink.sink c.args.out.now).taken) c.deref.ensures.value;
        };
      },
      c.in-Ok-write.ensures.takes.no_fault,
    )

pub returns-in-Ok-award_text-clause-ends : goal.returns-in-Ok-award_text-clause-ends
returns-in-Ok-award_text-clause-ends g c =
    let fails = c.in-Err-write.ensures.fails in
    let from = c.in-Ok.ensures.book in (
      fails.rose,
      record {
        no_fault = c.in-Ok.ensures.no_fault;
        told = λ bytes told. let read = from.read bytes told in record {
          text = c.in-Ok-award_text.text.items;
          run = record {
            offering = c.in-Ok.book.offering;
            book = from.book;
            begins = read.begins;
            award = c.in-Ok-award_text.ensures from.book from.is_kept;
          };
          reads = read.reads;
          taken = rw c.deref.ensures.value at fails.prefix;
        };
      },
    )

pub returns-clause-ends : goal.returns-clause-ends
returns-clause-ends g c =
    let source = g.I.Source.source in
    let from = c.in-Ok.ensures.book in (
      refl,
      record {
        no_fault = c.in-Ok.ensures.no_fault;
        told = λ bytes told. LeavesOpen-book (source c.args.input.now).reads (source c.read_book.new.input).reads
            c.in-Ok.book.offering from.book bytes (from.read bytes told);
      },
    )
