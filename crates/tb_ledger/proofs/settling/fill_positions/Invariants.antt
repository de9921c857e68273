-- the positions of the bidders so far
use Rattle.std.proofs.Common.{◌≡◌, take, vec_capacity}
use Rattle.tb_ledger.specs.Settling.{positions_by}
use Rattle.tb_ledger.proofs.settling.fill_positions.Given as goal

abbrev pub invariant-loop-enrolment : goal.invariant-loop-enrolment
invariant-loop-enrolment l = record {
  positions : l.positions.items ≡ positions_by l.reports.list l.auction (take l.enrolment-index l.bidders.list);
  room : vec_capacity l.positions ≡ vec_capacity l.initial.positions;
}
