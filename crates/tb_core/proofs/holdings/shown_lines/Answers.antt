-- Each account of the holder in turn.
use Rattle.std.proofs.Common.{◌≡◌, ◌+◌, ◌-◌, ◌<◌, List, length, get_or, take, refl, subst, sym, arith}
use Rattle.std.specs.Prelude.{filter}
use Rattle.std.proofs.lemmas.List.{take_all}
use Rattle.tb_terms.specs.declared.announcement.Announcement.{Announcement}
use Rattle.tb_terms.specs.declared.terms.Terms.{Terms}
use Rattle.tb_history.specs.Readings.{AreHoldingLines}
use Rattle.tb_tables.specs.Auctions.{announced_in}
use Rattle.tb_core.specs.Shown.{is_shown}
use Rattle.tb_core.proofs.ShownLemmas.{announced_more}
use Rattle.tb_core.proofs.BetweenLemmas.{lines-past}
use Rattle.tb_core.proofs.holdings.shown_lines.Goals as goal

pub loop-place-init : goal.loop-place-init
loop-place-init c = record {
  within = omega arith;
  shown = λ history participant tied known same. rw c.new-lines.ensures tt;
}

pub loop-place-preserved : goal.loop-place-preserved
loop-place-preserved c =
    let auctions : List Terms = c.args.tables.now.auctions.list in
    let place = c.in-Some.place in
    let terms = c.index-auctions-place.result in
    let within = c.in-Some.ensures.within in
    let is : terms ≡ get_or auctions place terms =
    subst (λ (rows : List Terms). terms ≡ get_or rows place terms) c.rows-auctions.ensures c.index-auctions-place.is in
    record {
      within = omega (arith, within.1);
      shown = λ history participant tied known same.
          subst (λ (front : List Announcement).
          AreHoldingLines history participant (filter (is_shown history participant) front) c.add_shown.new.lines)
          (sym (announced_more auctions place terms within.1 is))
          (c.in_ok-add_shown.ensures history participant (announced_in (take place auctions)) tied known same
          (lines-past history participant auctions c.loop-place.lines c.loop-place.from place within.0
          (omega (arith, within.1)) (c.in-Some.ensures.none_between history participant tied known same)
          (c.loop-place.invariant.shown history participant tied known same)));
    }

pub loop-place-smaller : goal.loop-place-smaller
loop-place-smaller c =
    let auctions : List Terms = c.args.tables.now.auctions.list in
    let within = c.in-Some.ensures.within in
    let less : length auctions - (c.in-Some.place + 1) < length auctions - c.loop-place.from =
    omega (arith, within.0, within.1) in
    less

pub returns : goal.returns
returns c history participant tied known same =
    let auctions : List Terms = c.args.tables.now.auctions.list in
    subst (λ (all : List Terms).
    AreHoldingLines history participant (filter (is_shown history participant) (announced_in all)) c.loop-place.lines)
    (take_all (length auctions) auctions (omega arith))
    (lines-past history participant auctions c.loop-place.lines c.loop-place.from (length auctions)
    c.loop-place.invariant.within (omega arith) (c.in_default.ensures.none refl history participant tied known same)
    (c.loop-place.invariant.shown history participant tied known same))
