-- A name's number is its first place, and where it is new the end.
use Rattle.std.proofs.Common.{sym, ◌∙◌}
use Rattle.tb_entries.proofs.NumberLemmas.{IsNumber-found, IsNumber-new}
use Rattle.tb_entries.proofs.names.number_near.Goals as goal

pub returns-in-Some-clause-number : goal.returns-in-Some-clause-number
returns-in-Some-clause-number c =
    IsNumber-found c.args.names.now.list c.args.name.now c.in-Some.place (sym c.find_near.ensures ∙ c.in-Some.is)

pub returns-in-None-clause-number : goal.returns-in-None-clause-number
returns-in-None-clause-number c =
    rw (c.push.ensures.list, c.len-place.ensures)
    (IsNumber-new c.args.names.now.list c.args.name.now (sym c.find_near.ensures ∙ c.in-None.is))
