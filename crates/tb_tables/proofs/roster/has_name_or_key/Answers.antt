-- One of the two is in use, or the other.
use Rattle.std.proofs.Common.{◌||◌, Bool, sym, ap, ◌∙◌}
use Rattle.std.specs.List.{list_any}
use Rattle.tb_history.specs.declared.roster.Registration.{Registration}
use Rattle.tb_history.specs.Entries.{is_same}
use Rattle.tb_tables.proofs.FindLemmas.{any_or}
use Rattle.tb_tables.proofs.roster.has_name_or_key.Goals as goal

pub returns-then-has_submitter : goal.returns-then-has_submitter
returns-then-has_submitter c =
    let name = λ (r : Registration). is_same r.submitter c.args.submitter.now in
    let key = λ (r : Registration). is_same r.key c.args.key.now in
    c.if-has_submitter.true
    ∙ sym (any_or name key c.args.submitters.now.list
    ∙ ap (λ (b : Bool). b || list_any key c.args.submitters.now.list)
    (sym c.has_submitter.ensures ∙ c.if-has_submitter.true))

pub returns-else-has_submitter : goal.returns-else-has_submitter
returns-else-has_submitter c =
    let name = λ (r : Registration). is_same r.submitter c.args.submitter.now in
    let key = λ (r : Registration). is_same r.key c.args.key.now in
    c.has_other.ensures
    ∙ sym (any_or name key c.args.submitters.now.list
    ∙ ap (λ (b : Bool). b || list_any key c.args.submitters.now.list)
    (sym c.has_submitter.ensures ∙ c.if-has_submitter.false))
