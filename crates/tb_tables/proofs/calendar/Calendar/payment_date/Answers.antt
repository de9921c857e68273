-- The days are in order, and those that were entered.
use Rattle.std.proofs.Common.{◌≡◌, ◌∙◌, ap, sym, subst, List}
use Rattle.tb_units.specs.declared.day.Day.{Day}
use Rattle.tb_index.specs.Listed.{Listed}
use Rattle.tb_tables.specs.Calendar.{AreByDate, IsCalendar}
use Rattle.tb_tables.proofs.CalendarLemmas.{numbers_rise, payment_found}
use Rattle.tb_tables.proofs.calendar.Calendar.payment_date.Goals as goal

pub payment_date-requires-clause-order : goal.payment_date-requires-clause-order
payment_date-requires-clause-order c =
    numbers_rise c.deref.result.now (subst AreByDate (sym c.deref.ensures.value) c.self.invariant)

pub returns : goal.returns
returns c entered calendar =
    let list : c.deref.result.now ≡ c.args.self.now.list =
    c.deref.ensures.value ∙ ap (λ (view : Listed Day). view.list) c.self.view_is in
    payment_found c.deref.result.now entered c.args.maturity c.payment_date.result
    (subst (λ (days : List Day). IsCalendar days entered) (sym list) calendar) c.payment_date.ensures
