use Rattle.tb_text_book.proofs.ReadLemmas.{SoFar}
use Rattle.tb_text_book.proofs.book.read_entries.Given as goal

-- the entries of the lines so far are kept
abbrev pub invariant-loop-read : goal.invariant-loop-read
invariant-loop-read g l =
    let source = g.I.Source.source in
    SoFar l.read l.fn.book.offering l.book (record { reader = l.fn.reader; source = source l.fn.input })
    (record { reader = l.reader; source = source l.input })
