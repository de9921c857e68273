use Rattle.std.proofs.Common.{◌≡◌, ◌+◌, ◌<◌, length, subst, sym, ap, ◌∙◌, refl, arith}
use Rattle.std.specs.Prelude.{Option}
use Rattle.std.proofs.lemmas.List.{length-set}
use Rattle.tb_units.specs.declared.rate.Rate.{Rate}
use Rattle.tb_text_book.specs.Books.{IsPriced, with_entry}
use Rattle.tb_text_book.specs.Bids.{noncompetitive_in, noncompetitive_of, without_rate, at_rate}
use Rattle.tb_text_book.specs.Tallies.{AreLinesOf, IsWayOf}
use Rattle.tb_text_book.specs.declared.book_line.Entry.TheVariants as entry
use Rattle.tb_text_book.proofs.TallyLemmas.{positions-bid, ways-set, lines-more, lines-same, sums-same, sums-set, known-more, length-more, noncompetitive_in-more, noncompetitive_of-le}
use Rattle.tb_text_book.proofs.text_book.TextBook.add_bid.Goals as goal

pub overflow_add-index_mut : goal.overflow_add-index_mut
overflow_add-index_mut c =
    let kept = c.requires.tally in
    let before = c.index_mut-in-None.result.now in
    let is_sum : before ≡ noncompetitive_of kept.0.entries c.args.number =
    c.index_mut-in-None.ensures.value ∙ kept.1.sums c.args.number before kept.2 in
    omega (
      arith,
      is_sum,
      noncompetitive_of-le kept.0.entries c.args.number,
      kept.1.noncompetitive,
      kept.1.bounded,
      kept.3,
      c.requires.amount,
    )

pub returns-in_default-2-clause-bad : goal.returns-in_default-2-clause-bad
returns-in_default-2-clause-bad c = λ bad book tally follows.
    let kept = c.requires.tally in
    let below : c.args.number < length book.names =
    omega (arith, kept.2, ap length kept.1.names, ap length tally.names) in
    let is_way : IsWayOf book.entries c.args.number c.index.result.now =
    subst (IsWayOf book.entries c.args.number) (sym c.index.ensures)
    (tally.ways c.args.number c.index.result.now below) in
    c.in_default.ensures book.entries c.args.number is_way follows.0

pub returns-in_ok-push_line-in-Some-rate-clause-added : goal.returns-in_ok-push_line-in-Some-rate-clause-added
returns-in_ok-push_line-in-Some-rate-clause-added c = λ book tally.
    let kept = c.requires.tally in
    let below : c.args.number < length book.names =
    omega (arith, kept.2, ap length kept.1.names, ap length tally.names) in
    let is_way : IsWayOf book.entries c.args.number c.index.result.now =
    subst (IsWayOf book.entries c.args.number) (sym c.index.ensures)
    (tally.ways c.args.number c.index.result.now below) in
    let follows = c.in-Some.ensures book.entries c.args.number is_way in
    let priced = c.if-has_price.ensures.0 refl in
    let days = c.args.self.now.offering.days.count in (
      follows.0,
      priced,
      record {
        names = tally.names;
        known = known-more (length book.names) book.entries c.args.number (entry.Bid c.args.bid.now) tally.known below;
        positions_size = tally.positions_size;
        positions = positions-bid c.args.self.now.positions.items book.entries c.args.number c.args.bid.now
            (length book.names) tally.positions;
        ways_size = omega (arith, tally.ways_size, length-set c.args.self.now.ways.items c.args.number c.in-Some.way);
        ways = ways-set c.args.self.now.ways.items book.entries c.args.number (entry.Bid c.args.bid.now) c.in-Some.way
            (length book.names) (omega (arith, below, tally.ways_size)) tally.ways follows.1;
        sums_size = tally.sums_size;
        sums = sums-same c.args.self.now.sums.items book.entries c.args.number (entry.Bid c.args.bid.now)
            (length book.names)
            (ap (λ (r : Option Rate). without_rate r c.args.bid.now.amount.value) c.in-Some-rate.is) tally.sums;
        lines = subst (AreLinesOf days (with_entry book c.args.number (entry.Bid c.args.bid.now)))
            (sym c.in_ok-push_line-in-Some-rate.ensures)
            (lines-more days book c.args.number c.args.bid.now c.in-Some-rate.rate c.args.self.now.lines.items
            c.in-Some-rate.is below
            (record {
              most = c.requires.amount;
              priced = subst (λ (r : Option Rate). IsPriced c.args.self.now.offering r) c.in-Some-rate.is priced;
            }) tally.lines);
        noncompetitive = tally.noncompetitive
            ∙ sym (noncompetitive_in-more book.entries c.args.number (entry.Bid c.args.bid.now)
            ∙ ap (λ (r : Option Rate). noncompetitive_in book.entries + without_rate r
            c.args.bid.now.amount.value) c.in-Some-rate.is ∙ omega arith);
        bounded = omega (arith, tally.bounded, length-more book.entries c.args.number (entry.Bid c.args.bid.now));
      },
    )

pub returns-in-None-clause-added : goal.returns-in-None-clause-added
returns-in-None-clause-added c = λ book tally.
    let kept = c.requires.tally in
    let below : c.args.number < length book.names =
    omega (arith, kept.2, ap length kept.1.names, ap length tally.names) in
    let is_way : IsWayOf book.entries c.args.number c.index.result.now =
    subst (IsWayOf book.entries c.args.number) (sym c.index.ensures)
    (tally.ways c.args.number c.index.result.now below) in
    let follows = c.in-Some.ensures book.entries c.args.number is_way in
    let before = c.index_mut-in-None.result.now in
    let sum = before + c.args.bid.now.amount.value in
    let is_sum : before ≡ noncompetitive_of book.entries c.args.number =
    c.index_mut-in-None.ensures.value ∙ tally.sums c.args.number before below in
    let days = c.args.self.now.offering.days.count in (
      follows.0,
      c.if-has_price.ensures.0 refl,
      record {
        names = tally.names;
        known = known-more (length book.names) book.entries c.args.number (entry.Bid c.args.bid.now) tally.known below;
        positions_size = tally.positions_size;
        positions = positions-bid c.args.self.now.positions.items book.entries c.args.number c.args.bid.now
            (length book.names) tally.positions;
        ways_size = omega (arith, tally.ways_size, length-set c.args.self.now.ways.items c.args.number c.in-Some.way);
        ways = ways-set c.args.self.now.ways.items book.entries c.args.number (entry.Bid c.args.bid.now) c.in-Some.way
            (length book.names) (omega (arith, below, tally.ways_size)) tally.ways follows.1;
        sums_size = length-set c.args.self.now.sums.items c.args.number sum ∙ tally.sums_size;
        sums = sums-set c.args.self.now.sums.items book.entries c.args.number (entry.Bid c.args.bid.now) sum
            (length book.names) (omega (arith, below, tally.sums_size)) tally.sums
            (ap (λ n. n + c.args.bid.now.amount.value) is_sum
            ∙ sym (ap (λ (r : Option Rate). noncompetitive_of book.entries c.args.number + without_rate r
            c.args.bid.now.amount.value) c.in-None.is));
        lines = lines-same days book c.args.number (entry.Bid c.args.bid.now) c.args.self.now.lines.items
            (λ steps. ap (λ (r : Option Rate). at_rate steps r c.args.bid.now.amount.value) c.in-None.is) tally.lines;
        noncompetitive = ap (λ n. n + c.args.bid.now.amount.value) tally.noncompetitive
            ∙ sym (noncompetitive_in-more book.entries c.args.number (entry.Bid c.args.bid.now)
            ∙ ap (λ (r : Option Rate). noncompetitive_in book.entries + without_rate r
            c.args.bid.now.amount.value) c.in-None.is);
        bounded = omega (
          arith,
          tally.bounded,
          c.requires.amount,
          length-more book.entries c.args.number
              (entry.Bid c.args.bid.now),
        );
      },
    )
