-- A day that isn't there yet stands in order at its place.
use Rattle.std.proofs.Common.{◌≡◌, ◌∙◌, ap, sym, subst, length, List, arith}
use Rattle.std.specs.List.{insert}
use Rattle.std.proofs.lemmas.List.Edits.{length-insert}
use Rattle.tb_units.specs.declared.day.Day.{Day}
use Rattle.tb_tables.specs.Calendar.{AreByDate, is_among}
use Rattle.tb_tables.proofs.CalendarLemmas.{among_insert, among_there, order_insert}
use Rattle.tb_tables.proofs.calendar.put.Goals as goal

pub returns-then-is_at-clause-added : goal.returns-then-is_at-clause-added
returns-then-is_at-clause-added c =
    let there = rw c.deref-2.ensures.value at (c.is_at.ensures.there c.if-is_at.true) in
    record {
      same = λ number. among_there c.args.days.now.items c.place_of-place.result c.args.day c.args.day number there.0
          (there.1 c.args.day);
      few = omega arith;
    }

pub returns-clause-order : goal.returns-clause-order
returns-clause-order c =
    let new : c.insert.new.self.items ≡ insert c.args.days.now.items c.place_of-place.result c.args.day =
    rw c.unwrap.ensures at c.insert.ensures.items in
    subst AreByDate (sym new)
    (order_insert c.args.days.now.items c.place_of-place.result c.args.day c.requires.order
    (rw c.deref.ensures.value at c.place_of-place.ensures)
    (rw c.deref-2.ensures.value at (c.is_at.ensures.absent c.if-is_at.false)))

pub returns-clause-added : goal.returns-clause-added
returns-clause-added c =
    let new : c.insert.new.self.items ≡ insert c.args.days.now.items c.place_of-place.result c.args.day =
    rw c.unwrap.ensures at c.insert.ensures.items in
    let at = rw c.deref.ensures.value at c.place_of-place.ensures in
    record {
      same = λ number.
          ap (λ (days : List Day). is_among days number) new
          ∙ among_insert c.args.days.now.items c.place_of-place.result c.args.day number;
      few = omega (
        arith,
        ap (λ (days : List Day). length days) new,
        length-insert c.args.days.now.items c.place_of-place.result c.args.day at.within,
      );
    }
