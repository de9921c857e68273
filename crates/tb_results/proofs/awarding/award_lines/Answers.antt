-- A bidder that is asked for has one line more.
use Rattle.std.proofs.Common.{◌<◌, List, length, true, false, sym, subst, ◌∙◌, arith}
use Rattle.std.proofs.lemmas.List.{take_all}
use Rattle.tb_history.specs.declared.roster.Enrolment.{Enrolment}
use Rattle.tb_history.specs.Readings.{AreAwardLines}
use Rattle.tb_results.specs.Outcomes.{bidders_among}
use Rattle.tb_results.proofs.AmountLemmas.{award_at, awards-many}
use Rattle.tb_results.proofs.AwardedLemmas.{IsAsked, lines-more, lines-same}
use Rattle.tb_results.proofs.awarding.award_lines.Goals as goal
use Rattle.tb_results.proofs.awarding.award_lines.Goals.{then-is_asked+in_ok-push, else-is_asked}

pub bounds-amounts-number : goal.bounds-amounts-number
bounds-amounts-number c =
    let are = c.requires.bidding.2 in
    omega (arith, awards-many c.requires.bidding.0 c.args.bidders.now c.args.amounts.now are.amounts_are)

pub invariant_of-amount : goal.invariant_of-amount
invariant_of-amount c =
    let are = c.requires.bidding.2 in
    record {
      in_range = omega (
        arith,
        c.requires.limited c.loop-number.number 0
            (omega (arith, awards-many c.requires.bidding.0 c.args.bidders.now c.args.amounts.now are.amounts_are)),
      );
    }

pub award_line-line-requires : goal.award_line-line-requires
award_line-line-requires c =
    let are = c.requires.bidding.2 in
    c.requires.limited c.loop-number.number 0
    (omega (arith, awards-many c.requires.bidding.0 c.args.bidders.now c.args.amounts.now are.amounts_are))

pub loop-number-preserved : goal.loop-number-preserved
loop-number-preserved c bidding recognised are =
    let lines = c.args.book.now.lines in
    let caller = c.args.caller.now in
    let bidders = c.args.bidders.now in
    let k = c.loop-number.number in
    let e = c.index-bidders-number.result in
    let inside : c.loop-number.number < length c.args.bidders.now = omega arith in
    let so_far = c.loop-number.invariant bidding recognised are in
    elim c.if-is_asked.branch [
      | then-is_asked+in_ok-push w ↦
          (let asked : IsAsked bidding lines caller bidders k e true = record {
            sound = are.cut.sound;
            booked = are.cut.booked;
            enrolled_are = are.enrolled;
            within = inside;
            there = sym c.index-bidders-number.is;
            asked_is = sym w.if-is_asked.true ∙ c.is_asked.ensures;
          } in
          rw (w.lines-is, w.in_ok-push.ensures.pushed)
          (lines-more bidding lines caller bidders k e c.loop-number.lines w.award_line-line.result asked so_far
          (w.award_line-line.ensures bidding lines recognised are.cut
          (award_at bidding bidders c.args.amounts.now k e inside c.index-bidders-number.is are.amounts_are))))
      | else-is_asked w ↦
          (let asked : IsAsked bidding lines caller bidders k e false = record {
            sound = are.cut.sound;
            booked = are.cut.booked;
            enrolled_are = are.enrolled;
            within = inside;
            there = sym c.index-bidders-number.is;
            asked_is = sym w.if-is_asked.false ∙ c.is_asked.ensures;
          } in
          rw w.lines-is (lines-same bidding lines caller bidders k e c.loop-number.lines asked so_far))
    ]

pub returns : goal.returns
returns c bidding recognised are =
    subst (λ (es : List Enrolment).
    AreAwardLines bidding (bidders_among bidding c.args.caller.now es) c.loop-number.lines)
    (take_all c.loop-number.number c.args.bidders.now (omega arith)) (c.loop-number.invariant bidding recognised are)
