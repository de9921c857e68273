-- The bids add nothing, or their entries are added or in doubt together.
use Rattle.std.proofs.Common.{◌≡◌, ◌++◌, [], inl, inr, ℕ, List, Some, None, refl, ap, sym, ◌∙◌, subst, arith}
use Rattle.std.specs.List.{All}
use Rattle.tb_units.specs.declared.moment.Moment.{Moment}
use Rattle.tb_message.specs.declared.message.Entry.{Entry}
use Rattle.tb_message.specs.declared.message.Message.{Message}
use Rattle.tb_message.specs.Spelling.{IsInRange, IsNumbered}
use Rattle.tb_history.specs.Legal.{IsLegal, running}
use Rattle.tb_core.specs.House.{IsBid}
use Rattle.tb_desk.specs.Stands.{Stands, IsGroup}
use Rattle.tb_desk.specs.Turn.{group_on, verdicts_on}
use Rattle.tb_desk.proofs.GroupLemmas.{gate-bound, IsLegal-in_range, All-append_right}
use Rattle.tb_desk.proofs.StepLemmas.{crash-none}
use Rattle.tb_desk.proofs.TurnLemmas.{crash-kept}
use Rattle.tb_desk.proofs.AnswerLemmas.{later-running}
use Rattle.tb_desk.proofs.JudgeLemmas.{sealed-all, group_on-all}
use Rattle.tb_desk.proofs.GroupAnswerLemmas.{told-verdicts, answered-group, doubted-group}
use Rattle.tb_desk.proofs.steps.answer_group.Goals as goal

pub returns-then-is_empty-clause-sealed : goal.returns-then-is_empty-clause-sealed
returns-then-is_empty-clause-sealed g c still =
    let history = c.args.host.now.history in
    let submitter = c.args.submitter.now in
    let messages = c.args.messages.now in
    let runs = later-running history c.args.moment c.last-last.result c.later-moment.result c.last-last.ensures
    c.later-moment.ensures in
    let whole = c.judge.ensures.history ∙ ap (λ (entries : List Entry). history ++ entries)
    (c.judge.ensures.group ∙ ap (λ (m : Moment). group_on history submitter m messages) runs) in
    sealed-all history submitter (running history c.args.moment) messages (subst IsLegal whole c.judge.ensures.legal)
    still

pub returns-in-Ok-clause-sealed : goal.returns-in-Ok-clause-sealed
returns-in-Ok-clause-sealed g c still =
    let history = c.args.host.now.history in
    let submitter = c.args.submitter.now in
    let messages = c.args.messages.now in
    let runs = later-running history c.args.moment c.last-last.result c.later-moment.result c.last-last.ensures
    c.later-moment.ensures in
    let whole = c.judge.ensures.history ∙ ap (λ (entries : List Entry). history ++ entries)
    (c.judge.ensures.group ∙ ap (λ (m : Moment). group_on history submitter m messages) runs) in
    sealed-all history submitter (running history c.args.moment) messages (subst IsLegal whole c.judge.ensures.legal)
    still

pub returns-in-Err-clause-sealed : goal.returns-in-Err-clause-sealed
returns-in-Err-clause-sealed g c still =
    let history = c.args.host.now.history in
    let submitter = c.args.submitter.now in
    let messages = c.args.messages.now in
    let runs = later-running history c.args.moment c.last-last.result c.later-moment.result c.last-last.ensures
    c.later-moment.ensures in
    let whole = c.judge.ensures.history ∙ ap (λ (entries : List Entry). history ++ entries)
    (c.judge.ensures.group ∙ ap (λ (m : Moment). group_on history submitter m messages) runs) in
    sealed-all history submitter (running history c.args.moment) messages (subst IsLegal whole c.judge.ensures.legal)
    still

pub returns-then-is_empty-clause-answered : goal.returns-then-is_empty-clause-answered
returns-then-is_empty-clause-answered g c =
    let history = c.args.host.now.history in
    let submitter = c.args.submitter.now in
    let messages = c.args.messages.now in
    let later = c.later-moment.result in
    let runs = later-running history c.args.moment c.last-last.result later c.last-last.ensures c.later-moment.ensures
    in (
      Some (verdicts_on history submitter (running history c.args.moment) messages),
      told-verdicts history submitter c.args.moment later messages c.judge.new.verdicts runs c.judge.ensures.verdicts,
      inl (answered-group history c.judge.new.host.history submitter c.args.moment later messages
          c.judge.new.group.items
          c.judge.new.group.items runs c.judge.ensures.group c.judge.ensures.history
          (sym c.as_slice.ensures.value ∙ c.is_empty.ensures.none c.if-is_empty.true)),
    )

pub returns-then-is_empty-clause-crash : goal.returns-then-is_empty-clause-crash
returns-then-is_empty-clause-crash g c =
    let d = g.D.Disk.disk in
    let old = c.args.journal.now in
    let history = c.args.host.now.history in
    crash-kept history (record { history = c.judge.new.host.history; doubt = c.judge.new.group.items }) (d old.disk)
    (d old.disk) (crash-none (d old.disk) old.gate old.doubt history []
    (subst (λ (entries : List Entry). Stands (d old.disk) old.gate old.doubt history entries) c.requires.sure
    c.requires.stands))

pub add_group-requires-clause-end : goal.add_group-requires-clause-end
add_group-requires-clause-end g c =
    let stands = c.requires.stands in
    let bound = gate-bound stands.groups c.args.host.now.history stands.whole stands.sizes stands.legal in
    omega (arith, bound, stands.place)

pub add_group-requires-clause-in_range : goal.add_group-requires-clause-in_range
add_group-requires-clause-in_range g c =
    let history = c.args.host.now.history in
    let all : All IsInRange (history ++ c.judge.new.group.items) =
    subst (λ (entries : List Entry). All IsInRange entries) c.judge.ensures.history
    (IsLegal-in_range c.judge.new.host.history c.judge.ensures.legal) in
    subst (λ (entries : List Entry). All IsInRange entries) (sym c.as_slice-2.ensures.value)
    (All-append_right history c.judge.new.group.items all)

pub take_back-requires-clause-bids : goal.take_back-requires-clause-bids
take_back-requires-clause-bids g c =
    let P : Entry → Type 0 = λ (entry : Entry). IsBid entry.message in
    subst (λ (entries : List Entry). All P entries) (sym (c.as_slice-in-Err.ensures.value ∙ c.judge.ensures.group))
    (group_on-all P (λ (asked : ℕ × Message). IsBid asked.1) c.args.host.now.history c.args.submitter.now
    c.later-moment.result c.args.messages.now (λ asked is. is) c.requires.bids)

pub take_back-requires-clause-moments : goal.take_back-requires-clause-moments
take_back-requires-clause-moments g c =
    let P : Entry → Type 0 = λ (entry : Entry). entry.moment ≡ c.later-moment.result in
    subst (λ (entries : List Entry). All P entries) (sym (c.as_slice-in-Err.ensures.value ∙ c.judge.ensures.group))
    (group_on-all P (λ (asked : ℕ × Message). IsNumbered asked.0 asked.1) c.args.host.now.history c.args.submitter.now
    c.later-moment.result c.args.messages.now (λ asked is. refl) c.requires.numbered)

pub returns-in-Ok-clause-answered : goal.returns-in-Ok-clause-answered
returns-in-Ok-clause-answered g c =
    let history = c.args.host.now.history in
    let submitter = c.args.submitter.now in
    let messages = c.args.messages.now in
    let later = c.later-moment.result in
    let runs = later-running history c.args.moment c.last-last.result later c.last-last.ensures c.later-moment.ensures
    in (
      Some (verdicts_on history submitter (running history c.args.moment) messages),
      told-verdicts history submitter c.args.moment later messages c.judge.new.verdicts runs c.judge.ensures.verdicts,
      inl (answered-group history c.judge.new.host.history submitter c.args.moment later messages
          c.judge.new.group.items
          c.clear.new.self.items runs c.judge.ensures.group c.judge.ensures.history c.clear.ensures.items),
    )

pub returns-in-Err-clause-answered : goal.returns-in-Err-clause-answered
returns-in-Err-clause-answered g c =
    let history = c.args.host.now.history in
    let submitter = c.args.submitter.now in
    let messages = c.args.messages.now in
    let later = c.later-moment.result in
    let runs = later-running history c.args.moment c.last-last.result later c.last-last.ensures
    c.later-moment.ensures in
    let some : IsGroup c.judge.new.group.items =
    subst (λ (entries : List Entry). IsGroup entries) c.as_slice.ensures.value
    (c.is_empty.ensures.some c.if-is_empty.false) in
    let stays : c.take_back.new.host.history ≡ history =
    c.take_back.ensures history (c.judge.ensures.history
    ∙ ap (λ (entries : List Entry). history ++ entries) (sym c.as_slice-in-Err.ensures.value)) in (
      None,
      c.blank.ensures,
      inr (doubted-group history c.take_back.new.host.history submitter c.args.moment later messages
          c.judge.new.group.items runs c.judge.ensures.group some stays),
    )
