-- A bidder that isn't enrolled has the number behind the last.
use Rattle.std.proofs.Common.{Bool, ◌∙◌, sym, ap, length}
use Rattle.tb_history.specs.declared.roster.Enrolment.{Enrolment}
use Rattle.tb_history.specs.Entries.{is_same}
use Rattle.tb_tables.proofs.FindLemmas.{position-none}
use Rattle.tb_tables.proofs.roster.number_of.Goals as goal

pub returns-in-None : goal.returns-in-None
returns-in-None c =
    let test : Enrolment → Bool = λ e. is_same e.bidder c.args.bidder.now in
    ap length c.rows.ensures
    ∙ sym (position-none test c.args.bidders.now.list (sym c.place_of_bidder.ensures ∙ c.in-None.is))
