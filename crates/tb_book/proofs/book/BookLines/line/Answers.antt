-- The competitive lines of an open book stand first, so the line of a rate is that at its place.
use Rattle.std.proofs.Common.{◌≡◌, ℕ, ◌<◌, Bool, true, false, List, [], cond, get_or, length, is_some, ap, refl, sym, subst, ◌∙◌, arith}
use Rattle.tb_units.specs.declared.lines.RateLine.{RateLine}
use Rattle.tb_book.specs.Books.{rate_lines}
use Rattle.tb_book.proofs.RateLineLemmas.{length-rate_lines-le, IsReadFrom, rate_lines-at, is_some-at, read-is}
use Rattle.tb_book.proofs.book.BookLines.line.Goals as goal

-- a book that shows a line is open
opened-shown : (opened : Bool) (lines : List RateLine) (place : ℕ)
    → place < length (cond opened lines [])
    → opened ≡ true
opened-shown true lines place short = refl
opened-shown false lines place short = absurd (omega (arith, short))

pub at-stored-requires : goal.at-stored-requires
at-stored-requires g c =
    let lines = c.self.inside.lines.lines in
    let shown = rw (← c.self.view_is) at c.requires in
    let opened = opened-shown c.self.inside.lines.opened (rate_lines lines) c.args.place shown in
    let short = rw opened at shown in
    record { opened = opened; within = omega (arith, short, length-rate_lines-le lines) }

pub unwrap-requires : goal.unwrap-requires
unwrap-requires g c =
    let lines = c.self.inside.lines.lines in
    let line = c.at-stored.result in
    let shown = rw (← c.self.view_is) at c.requires in
    let opened = opened-shown c.self.inside.lines.opened (rate_lines lines) c.args.place shown in
    let short = rw opened at shown in
    ap (λ found. is_some found.rate) (c.line-line.ensures ∙ c.at-stored.ensures)
    ∙ is_some-at lines (c.self.invariant.0.kept.order opened) c.args.place line short

pub returns-clause-line : goal.returns-clause-line
returns-clause-line g c =
    let lines = c.self.inside.lines.lines in
    let line = c.at-stored.result in
    let read : RateLine = record { rate = c.unwrap.result; bidder = line.bidder; amount = line.amount } in
    let shown = rw (← c.self.view_is) at c.requires in
    let opened = opened-shown c.self.inside.lines.opened (rate_lines lines) c.args.place shown in
    let short = rw opened at shown in
    let from = subst (λ found. IsReadFrom found (get_or (rate_lines lines) c.args.place read)) (sym c.at-stored.ensures)
    (rate_lines-at lines (c.self.invariant.0.kept.order opened) c.args.place line read short) in
    rw (← c.self.view_is, opened, c.line-line.ensures)
    (read-is line (get_or (rate_lines lines) c.args.place read) c.unwrap.result from
    (rw c.line-line.ensures at c.unwrap.ensures))
