-- The auction before the end is the bill's, and its link leads to the one before it.
use Rattle.std.proofs.Common.{◌≡◌, ◌-◌, ◌∙◌, List, get_or, drop, ap, subst, arith}
use Rattle.std.specs.List.{find}
use Rattle.tb_terms.specs.declared.terms.Terms.{Terms}
use Rattle.tb_index.proofs.LinkLemmas.{next-smaller}
use Rattle.tb_tables.proofs.BehindLemmas.{IsFirstBehind-start}
use Rattle.tb_tables.proofs.UnsettledLemmas.{is_of, is_open, open-of, open-step, own-end}
use Rattle.tb_tables.proofs.auctions.first_unsettled.Goals as goal

pub loop-end-init : goal.loop-end-init
loop-end-init c =
    let bytes = c.args.cusip.now.bytes in
    let settled = c.args.settled.now.list in
    IsFirstBehind-start (is_of bytes) (is_open bytes settled) c.args.auctions.now.list c.end_other-end.result
    (open-of bytes settled) c.end_other-end.ensures

pub loop-end-preserved : goal.loop-end-preserved
loop-end-preserved c =
    let bytes = c.args.cusip.now.bytes in
    let settled = c.args.settled.now.list in
    let terms = c.index-rows-end.result in
    let end = c.loop-end.end in
    open-step bytes settled c.args.auctions.now.list end c.end_before-end.result terms c.loop-end.first
    c.first_of-first.result c.loop-end.invariant c.loop-end-test.true
    (subst (λ (rows : List Terms). terms ≡ get_or rows (end - 1) terms) c.rows.ensures c.index-rows-end.is)
    c.end_before-end.ensures c.first_of-first.ensures

pub loop-end-smaller : goal.loop-end-smaller
loop-end-smaller c =
    let bytes = c.args.cusip.now.bytes in
    let auctions = c.args.auctions.now.list in
    next-smaller (is_of bytes) auctions c.loop-end.end c.end_before-end.result c.loop-end.invariant.within
    c.loop-end-test.true
    (own-end bytes c.args.settled.now.list auctions c.loop-end.end c.end_before-end.result c.index-rows-end.result
    c.loop-end.first c.loop-end.invariant c.loop-end-test.true c.end_before-end.ensures)

pub returns : goal.returns
returns c =
    let none : c.loop-end.end ≡ 0 = omega arith in
    c.loop-end.invariant.found
    ∙ ap (λ end. find (is_open c.args.cusip.now.bytes c.args.settled.now.list) (drop end c.args.auctions.now.list)) none
