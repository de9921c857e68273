-- What the holder has no account of has no line.
use Rattle.std.proofs.Common.{◌≤◌, ◌<◌, List, length, refl, subst, arith}
use Rattle.tb_terms.specs.declared.terms.Terms.{Terms}
use Rattle.tb_core.proofs.BetweenLemmas.{HasNoLine-nothing}
use Rattle.tb_core.proofs.holdings.next_shown.Goals as goal

pub returns-in_err-place-clause-none : goal.returns-in_err-place-clause-none
returns-in_err-place-clause-none c = λ _.
    HasNoLine-nothing c.args.tables.now c.args.holder c.args.from (length c.args.tables.now.auctions.list) (omega arith)
    (λ security after _. c.in_err-place.ensures.none refl security after)

pub returns-then-place-rows-clause-none_between : goal.returns-then-place-rows-clause-none_between
returns-then-place-rows-clause-none_between c =
    let short : c.in_ok-place.place < length c.args.tables.now.auctions.list =
    subst (λ (rows : List Terms). c.in_ok-place.place < length rows) c.rows.ensures c.if-place-rows.true in
    HasNoLine-nothing c.args.tables.now c.args.holder c.args.from c.in_ok-place.place (omega (arith, short))
    c.in_ok-place.ensures.none_between

pub returns-clause-none : goal.returns-clause-none
returns-clause-none c = λ _.
    let past : length c.args.tables.now.auctions.list ≤ c.in_ok-place.place =
    subst (λ (rows : List Terms). length rows ≤ c.in_ok-place.place) c.rows.ensures c.if-place-rows.false in
    HasNoLine-nothing c.args.tables.now c.args.holder c.args.from (length c.args.tables.now.auctions.list) (omega arith)
    (λ security after before. c.in_ok-place.ensures.none_between security after (omega (arith, before, past)))
