-- What is left of a mark is pledged, and the mark found is the holder's of that number.
use Rattle.std.proofs.Common.{sym, ◌∙◌, arith}
use Rattle.tb_holdings.proofs.MarkLemmas.{left-le-pledged_in, mark_in-Some}
use Rattle.tb_holdings.proofs.KeptLemmas.{pledged_in-limit}
use Rattle.tb_holdings.proofs.accounts.Accounts.mark.Goals as goal

pub invariant_of-result : goal.invariant_of-result
invariant_of-result c = record {
  in_range = omega (
    arith,
    left-le-pledged_in c.args.holder c.args.number c.self.inside.marks.list c.in-Some.found
        (sym c.find.ensures ∙ c.in-Some.is),
    pledged_in-limit c.self.invariant.0 c.in-Some.found.holder c.in-Some.found.security,
  );
}

pub returns-in-Some-clause-found : goal.returns-in-Some-clause-found
returns-in-Some-clause-found c =
    rw (← c.self.view_is)
    (mark_in-Some c.args.holder c.args.number c.self.inside.marks.list c.in-Some.found
    (sym c.find.ensures ∙ c.in-Some.is))
