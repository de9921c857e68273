-- The binary search asks whether a day is earlier.
use Rattle.std.proofs.Common.{rules, tests, nat_lt}
use Rattle.std.proofs.lemmas.List.Sorted.{IsPartitionPoint-from_clause}
use Rattle.tb_units.specs.declared.day.Day.{Day}
use Rattle.tb_holdings.proofs.PlaceLemmas.{IsPlace-found}
use Rattle.tb_tables.proofs.CalendarLemmas.{parted}
use Rattle.tb_tables.proofs.calendar.place_of.Goals as goal

pub returns : goal.returns
returns c =
    let earlier = λ (other : Day). nat_lt other.number c.args.day.number in
    let found = c.partition_point.result in
    IsPlace-found earlier c.args.days.now found c.partition_point.ensures.bound
    (IsPartitionPoint-from_clause earlier c.args.days.now found c.partition_point.ensures.partitioned
    (parted c.args.days.now c.args.day c.requires)
    (λ other answer q k. search (rules, tests)))
