-- The rows stay, and the new one is the entry's.
use Rattle.std.proofs.Common.{◌<◌, ◌∷◌, ◌++◌, [], sym, ap, subst, ◌∙◌, arith}
use Rattle.tb_message.specs.declared.message.Entry.{Entry}
use Rattle.tb_index.specs.Listed.{Listed}
use Rattle.tb_entries.proofs.NumberLemmas.{own-stays}
use Rattle.tb_entries.proofs.RowLemmas.{Pushed, pushed}
use Rattle.tb_entries.proofs.entries.Entries.push.Goals as goal

pub number_near-submitter-requires-clause-near : goal.number_near-submitter-requires-clause-near
number_near-submitter-requires-clause-near c =
    c.last_submitter-near_submitter.ensures c.self.inside.names.list c.self.inside.others.items
    (rw c.rows.ensures c.self.invariant.0)

pub said_of-said-requires-clause-near : goal.said_of-said-requires-clause-near
said_of-said-requires-clause-near c =
    own-stays c.self.inside.names.list c.number_near-submitter.new.names.list c.last_auction-near_auction.result
    c.number_near-submitter.ensures.grown
    (c.last_auction-near_auction.ensures c.self.inside.names.list c.self.inside.others.items
    (rw c.rows-2.ensures c.self.invariant.0))

-- what the two numberings and the new row come to
after : (c : goal.After-push)
    → Pushed c.self.inside.names.list c.said_of-said.new.names.list c.self.inside.others.items
    c.said_of-said.new.others.items c.self.inside.rows.list c.push.new.self.list c.args.entry.now
after c =
    pushed c.self.inside.names.list c.self.inside.others.items c.self.inside.rows.list c.self.invariant.0
    c.args.entry.now c.number_near-submitter.new.names.list c.said_of-said.new.names.list
    c.said_of-said.new.others.items c.number_near-submitter.ensures.grown c.said_of-said.ensures.names
    c.said_of-said.ensures.others c.number_near-submitter.result c.said_of-said.result
    c.number_near-submitter.ensures.number c.said_of-said.ensures.is c.said_of-said.ensures.says
    c.push.new.self.list c.push.ensures.list

pub invariant_of-self : goal.invariant_of-self
invariant_of-self c = (
  (after c).rows_are,
  omega (
    arith,
    subst (λ (value : Listed Entry). 0 < value.spare) (sym c.self.view_is) c.requires,
    c.self.invariant.1,
    c.number_near-submitter.ensures.long,
    c.said_of-said.ensures.long,
  ),
)

pub returns-clause-list : goal.returns-clause-list
returns-clause-list c =
    (after c).entries_are ∙ ap (λ entries. entries ++ c.args.entry.now ∷ []) (λ i. (c.self.view_is i).list)
