-- no line was read, or the last ones up to the place are the bid that is being read
use Rattle.std.proofs.Common.{◌≡◌, ◌+◌, ◌*◌, ◌≤◌, [], take, vec_capacity}
use Rattle.std.specs.Prelude.{MatchOption}
use Rattle.tb_award.specs.Passes.{AreSettledOf, IsReadingOf}
use Rattle.tb_award.proofs.recognising.recognise_lines.Given as goal

abbrev pub invariant-loop-place : goal.invariant-loop-place
invariant-loop-place g l = record {
  reading : MatchOption l.reading
      ((l.place ≡ 0) × AreSettledOf [] l.positions l.offering.value l.recognised.items l.taken.items)
      (λ bid. IsReadingOf (take l.place (g.B.Lines.lines_of l.lines)) l.positions l.offering.value l.recognised.items
      l.taken.items bid);
  room : vec_capacity l.recognised ≡ vec_capacity l.initial.recognised;
  taken_room : vec_capacity l.taken ≡ vec_capacity l.initial.taken;
  steps : l.steps ≤ l.initial.steps + l.place * g.B.Lines.cost l.lines;
}
