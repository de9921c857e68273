-- A line is the one asked for where its numbers are.
use Rattle.std.proofs.Common.{◌<◌, length, sym, ◌∙◌, arith}
use Rattle.std.proofs.lemmas.List.{get_or_default}
use Rattle.tb_book.proofs.KeyLemmas.{rank-equal}
use Rattle.tb_book.proofs.ListedLemmas.{lacks-others}
use Rattle.tb_book.proofs.waiting.has_waiting.Goals as goal

pub returns-then-rank-wanted-clause-there : goal.returns-then-rank-wanted-clause-there
returns-then-rank-wanted-clause-there c _ =
    let line = c.line-item.result in
    let place = c.loop-line.line-index in
    let within : place < length c.args.waiting.now = omega arith in
    let own = c.is_of.ensures.0 c.if-is_of.true in
    let rates = rank-equal line.rate c.args.rate
    (sym c.rank.ensures ∙ c.if-rank-wanted.true ∙ c.rank-wanted.ensures) in (
      place,
      within,
      λ d.
          rw (get_or_default c.args.waiting.now place d line within, ← c.line-item.is) (rates, own.0, own.1),
    )

pub returns-clause-none : goal.returns-clause-none
returns-clause-none c _ =
    lacks-others c.args.rate c.args.bidder c.args.number c.args.waiting.now
    (λ k d short. c.loop-line.invariant k (omega (arith, short)) d)
