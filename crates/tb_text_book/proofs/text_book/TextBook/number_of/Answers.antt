use Rattle.std.proofs.Common.{◌≡◌, ℕ, ℤ, pos, List, get_or, subst, ◌+◌, ◌∷◌, [], length, arith, ap, ◌∙◌, sym, refl}
use Rattle.std.proofs.lemmas.List.{length-append}
use Rattle.tb_text_book.proofs.NumberingLemmas.{gets-number-at, lines-new, new-name, old-name, positions-new, sums-new, ways-new}
use Rattle.tb_text_book.proofs.TallyLemmas.{known-wider}
use Rattle.tb_text_book.specs.Bids.{noncompetitive_of, position_of}
use Rattle.tb_text_book.specs.Tallies.{IsWayOf}
use Rattle.tb_text_book.specs.declared.way.Way.{Way}
use Rattle.tb_text_book.specs.declared.way.Way.TheVariants as way
use Rattle.tb_text_book.proofs.text_book.TextBook.number_of.Goals as goal

pub returns-in_ok-push-3-clause-numbered : goal.returns-in_ok-push-3-clause-numbered
returns-in_ok-push-3-clause-numbered c = λ book tally.
    let keys = c.args.self.now.bidders.keys in
    let new = c.in_ok-number.ensures.keys
    ∙ new-name keys c.args.bidder c.in_ok-number.is_new c.if-is_new.true c.in_ok-number.ensures.added in
    let size : length c.insert_full.new.self.keys ≡ length book.names + 1 =
    omega (arith, ap length new, length-append keys (c.args.bidder ∷ []), ap length tally.names) in (
      gets-number-at keys book.names c.insert_full.new.self.keys c.args.bidder c.in_ok-number.number tally.names
          c.in_ok-number.ensures.index c.in_ok-number.ensures.keys,
      record {
        names = refl;
        known = known-wider (length book.names) (length c.insert_full.new.self.keys) book.entries
            (omega (arith, size)) tally.known;
        positions_size = omega (
          arith,
          ap length c.in_ok-push.ensures.items,
          length-append c.args.self.now.positions.items (pos 0 ∷ []),
          tally.positions_size,
          size,
        );
        positions = λ bidder below. subst
            (λ (ps : List ℤ). get_or ps bidder (pos 0) ≡ position_of book.entries bidder)
            (sym c.in_ok-push.ensures.items)
            (positions-new c.args.self.now.positions.items book.entries (length book.names) tally.positions_size
            tally.known tally.positions bidder (omega (arith, below, size)));
        ways_size = omega (
          arith,
          ap length c.in_ok-push-2.ensures.items,
          length-append c.args.self.now.ways.items
              (way.Open ∷ []),
          tally.ways_size,
          size,
        );
        ways = λ bidder d below. subst (λ (ws : List Way). IsWayOf book.entries bidder (get_or ws bidder d))
            (sym c.in_ok-push-2.ensures.items)
            (ways-new c.args.self.now.ways.items book.entries (length book.names) tally.ways_size tally.known
            tally.ways bidder d (omega (arith, below, size)));
        sums_size = omega (
          arith,
          ap length c.in_ok-push-3.ensures.items,
          length-append c.args.self.now.sums.items (0 ∷ []),
          tally.sums_size,
          size,
        );
        sums = λ bidder d below. subst
            (λ (ss : List ℕ). get_or ss bidder d ≡ noncompetitive_of book.entries bidder)
            (sym c.in_ok-push-3.ensures.items)
            (sums-new c.args.self.now.sums.items book.entries (length book.names) tally.sums_size tally.known
            tally.sums bidder d (omega (arith, below, size)));
        lines = lines-new c.args.self.now.offering.days.count book c.insert_full.new.self.keys
            c.args.self.now.lines.items (omega (arith, size)) tally.lines;
        noncompetitive = tally.noncompetitive;
        bounded = tally.bounded;
      },
    )

pub returns-else-is_new-clause-numbered : goal.returns-else-is_new-clause-numbered
returns-else-is_new-clause-numbered c = λ book tally.
    let keys = c.args.self.now.bidders.keys in
    let same = c.in_ok-number.ensures.keys
    ∙ old-name keys c.args.bidder c.in_ok-number.is_new c.if-is_new.false c.in_ok-number.ensures.added in
    let size : length c.insert_full.new.self.keys ≡ length book.names =
    omega (arith, ap length same, ap length tally.names) in (
      gets-number-at keys book.names c.insert_full.new.self.keys c.args.bidder c.in_ok-number.number tally.names
          c.in_ok-number.ensures.index c.in_ok-number.ensures.keys,
      record {
        names = refl;
        known = known-wider (length book.names) (length c.insert_full.new.self.keys) book.entries
            (omega (arith, size)) tally.known;
        positions_size = omega (arith, tally.positions_size, size);
        positions = λ bidder below. tally.positions bidder (omega (arith, size, below));
        ways_size = omega (arith, tally.ways_size, size);
        ways = λ bidder d below. tally.ways bidder d (omega (arith, size, below));
        sums_size = omega (arith, tally.sums_size, size);
        sums = λ bidder d below. tally.sums bidder d (omega (arith, size, below));
        lines = lines-new c.args.self.now.offering.days.count book c.insert_full.new.self.keys
            c.args.self.now.lines.items (omega (arith, size)) tally.lines;
        noncompetitive = tally.noncompetitive;
        bounded = tally.bounded;
      },
    )
