-- The enrolment at the bidder's place is its own, and a bidder that isn't enrolled has the number behind the last.
use Rattle.std.proofs.Common.{Bool, ◌∙◌, sym, ap, get_or, length}
use Rattle.tb_index.proofs.PositionLemmas.{find-none, find-placed}
use Rattle.tb_history.specs.declared.roster.Enrolment.{Enrolment}
use Rattle.tb_history.specs.Entries.{is_same}
use Rattle.tb_history.specs.Roster.{is_under}
use Rattle.tb_tables.proofs.FindLemmas.{position-none}
use Rattle.tb_tables.proofs.roster.number_under.Goals as goal

pub returns-in-Some-clause-under : goal.returns-in-Some-clause-under
returns-in-Some-clause-under c =
    let test : Enrolment → Bool = λ e. is_same e.bidder c.args.bidder.now in
    let place = c.in-Some.place in
    let row = c.index-rows-place.result in
    let found = find-placed test c.args.bidders.now.list place row (sym c.place_of_bidder.ensures ∙ c.in-Some.is)
    (c.index-rows-place.is ∙ ap (λ list. get_or list place row) c.rows.ensures) in
    c.is_same.ensures ∙ sym (ap (is_under c.args.submitter.now) found)

pub returns-in-None : goal.returns-in-None
returns-in-None c =
    let test : Enrolment → Bool = λ e. is_same e.bidder c.args.bidder.now in
    let none = sym c.place_of_bidder.ensures ∙ c.in-None.is in
    record {
      number = ap length c.rows-in-None.ensures ∙ sym (position-none test c.args.bidders.now.list none);
      under = sym (ap (is_under c.args.submitter.now) (find-none test c.args.bidders.now.list none));
    }
