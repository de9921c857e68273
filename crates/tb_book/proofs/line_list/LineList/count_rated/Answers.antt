-- The competitive lines of an open book stand first.
use Rattle.std.proofs.Common.{append-nil, sym}
use Rattle.tb_book.proofs.KeyLemmas.{competitive-point}
use Rattle.tb_book.proofs.RateLineLemmas.{length-rate_lines}
use Rattle.tb_book.proofs.line_list.LineList.count_rated.Goals as goal

pub returns : goal.returns
returns c =
    let sorted = c.self.inside.sorted.elements in
    let place = c.place_of.result in
    let opened = c.if-not-self.false in
    rw (← c.self.view_is, opened, c.self.invariant.none opened, append-nil sorted)
    (sym (length-rate_lines sorted place c.place_of.ensures.within
    (competitive-point sorted place c.place_of.ensures.place)))
