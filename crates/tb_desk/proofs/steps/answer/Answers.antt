-- The message adds nothing, or its entry is added or in doubt.
use Rattle.std.proofs.Common.{◌≡◌, ◌++◌, ◌∷◌, [], inl, inr, List, Option, refl, ap, sym, ◌∙◌, subst, arith}
use Rattle.std.specs.Prelude.{IfSome}
use Rattle.std.specs.Option.{option_to_list}
use Rattle.tb_message.specs.declared.message.Entry.{Entry}
use Rattle.tb_history.specs.Legal.{IsLegal, Longer, Follows}
use Rattle.tb_desk.specs.Stands.{Stands, StandsForEither, CrashesLeave}
use Rattle.tb_desk.proofs.GroupLemmas.{gate-bound}
use Rattle.tb_desk.proofs.StepLemmas.{crash-none}
use Rattle.tb_desk.proofs.TurnLemmas.{crash-kept, crash-grown}
use Rattle.tb_desk.proofs.AnswerLemmas.{later-running, answered-kept, answered-added, doubted-added}
use Rattle.tb_desk.proofs.steps.answer.Goals as goal

pub returns-in_default-clause-answered : goal.returns-in_default-clause-answered
returns-in_default-clause-answered g c =
    let history = c.args.host.now.history in
    inl (answered-kept history c.args.submitter.now c.args.number c.args.moment c.later-moment.result c.args.message.now
    c.decide.result.0 c.args.doubt.now.items
    (later-running history c.args.moment c.last.result c.later-moment.result c.last.ensures c.later-moment.ensures)
    c.decide.ensures.verdict
    (ap (λ (entry : Option Entry). option_to_list entry) (sym c.in_default.is) ∙ c.decide.ensures.entry)
    c.requires.sure)

pub returns-in_default-clause-crash : goal.returns-in_default-clause-crash
returns-in_default-clause-crash g c =
    let d = g.D.Disk.disk in
    let old = c.args.journal.now in
    let history = c.args.host.now.history in
    crash-kept history (record { history = history; doubt = c.args.doubt.now.items }) (d old.disk) (d old.disk)
    (crash-none (d old.disk) old.gate old.doubt history []
    (subst (λ (entries : List Entry). Stands (d old.disk) old.gate old.doubt history entries) c.requires.sure
    c.requires.stands))

pub add_group-requires-clause-end : goal.add_group-requires-clause-end
add_group-requires-clause-end g c =
    let stands = c.requires.stands in
    let bound = gate-bound stands.groups c.args.host.now.history stands.whole stands.sizes stands.legal in
    omega (arith, bound, stands.place)

pub returns-in-Ok-clause-stands : goal.returns-in-Ok-clause-stands
returns-in-Ok-clause-stands g c =
    let d = g.D.Disk.disk in
    let old = c.args.journal.now in
    let new = c.add_group.new.journal in
    let history = c.args.host.now.history in
    let entry = c.in-Some.entry in
    let group : c.as_slice.result.now ≡ entry ∷ [] = c.as_slice.ensures.value ∙ (c.push_reserved.ensures.items
    ∙ ap (λ (entries : List Entry). entries ++ entry ∷ []) c.requires.sure) in
    let follows : Follows history entry =
    subst (λ (found : Option Entry). IfSome found (λ found. Follows history found)) c.in-Some.is
    c.decide.ensures.follows in
    let stands : Stands (d old.disk) old.gate old.doubt history [] =
    subst (λ (entries : List Entry). Stands (d old.disk) old.gate old.doubt history entries) c.requires.sure
    c.requires.stands in
    let legal : IsLegal (history ++ entry ∷ []) = Longer history entry stands.legal follows in
    let after : Stands (d new.disk) new.gate new.doubt (history ++ entry ∷ []) [] =
    subst (λ (entries : List Entry). Stands (d new.disk) new.gate new.doubt (history ++ entries) []) group
    (c.in-Ok.ensures.added history stands (subst (λ (entries : List Entry). IsLegal (history ++ entries)) (sym group)
    legal)) in
    subst (λ (entries : List Entry). Stands (d new.disk) new.gate new.doubt c.apply.new.host.history entries)
    (sym c.clear.ensures.items)
    (subst (λ (entries : List Entry). Stands (d new.disk) new.gate new.doubt entries []) (sym c.apply.ensures.history)
    after)

pub returns-in-Ok-clause-answered : goal.returns-in-Ok-clause-answered
returns-in-Ok-clause-answered g c =
    let history = c.args.host.now.history in
    inl (answered-added history c.apply.new.host.history c.args.submitter.now c.args.number c.args.moment
    c.later-moment.result c.args.message.now c.decide.result.0 c.in-Some.entry c.clear.new.self.items
    (later-running history c.args.moment c.last.result c.later-moment.result c.last.ensures c.later-moment.ensures)
    c.decide.ensures.verdict
    (ap (λ (entry : Option Entry). option_to_list entry) (sym c.in-Some.is) ∙ c.decide.ensures.entry)
    c.apply.ensures.history c.clear.ensures.items)

pub returns-in-Ok-clause-crash : goal.returns-in-Ok-clause-crash
returns-in-Ok-clause-crash g c =
    let d = g.D.Disk.disk in
    let old = c.args.journal.now in
    let new = c.add_group.new.journal in
    let history = c.args.host.now.history in
    let entry = c.in-Some.entry in
    let group : c.as_slice.result.now ≡ entry ∷ [] = c.as_slice.ensures.value ∙ (c.push_reserved.ensures.items
    ∙ ap (λ (entries : List Entry). entries ++ entry ∷ []) c.requires.sure) in
    let stands : Stands (d old.disk) old.gate old.doubt history [] =
    subst (λ (entries : List Entry). Stands (d old.disk) old.gate old.doubt history entries) c.requires.sure
    c.requires.stands in
    crash-grown history (entry ∷ []) c.apply.new.host.history c.clear.new.self.items (d old.disk) (d new.disk)
    (inl (c.apply.ensures.history, c.clear.ensures.items))
    (subst (λ (entries : List Entry). CrashesLeave (StandsForEither history entries) (d old.disk) (d new.disk)) group
    (c.add_group.ensures.crash history stands))

pub returns-in-Err-clause-stands : goal.returns-in-Err-clause-stands
returns-in-Err-clause-stands g c =
    let d = g.D.Disk.disk in
    let old = c.args.journal.now in
    let new = c.add_group.new.journal in
    let history = c.args.host.now.history in
    let entry = c.in-Some.entry in
    let group : c.as_slice.result.now ≡ entry ∷ [] = c.as_slice.ensures.value ∙ (c.push_reserved.ensures.items
    ∙ ap (λ (entries : List Entry). entries ++ entry ∷ []) c.requires.sure) in
    let follows : Follows history entry =
    subst (λ (found : Option Entry). IfSome found (λ found. Follows history found)) c.in-Some.is
    c.decide.ensures.follows in
    let stands : Stands (d old.disk) old.gate old.doubt history [] =
    subst (λ (entries : List Entry). Stands (d old.disk) old.gate old.doubt history entries) c.requires.sure
    c.requires.stands in
    let legal : IsLegal (history ++ entry ∷ []) = Longer history entry stands.legal follows in
    subst (λ (entries : List Entry). Stands (d new.disk) new.gate new.doubt history entries) c.as_slice.ensures.value
    (c.in-Err.ensures.doubted history stands (subst (λ (entries : List Entry). IsLegal (history ++ entries)) (sym group)
    legal))

pub returns-in-Err-clause-answered : goal.returns-in-Err-clause-answered
returns-in-Err-clause-answered g c =
    let history = c.args.host.now.history in
    let entry = c.in-Some.entry in
    inr (doubted-added history c.args.submitter.now c.args.number c.args.moment c.later-moment.result c.args.message.now
    entry c.push_reserved.new.self.items
    (later-running history c.args.moment c.last.result c.later-moment.result c.last.ensures c.later-moment.ensures)
    (ap (λ (entry : Option Entry). option_to_list entry) (sym c.in-Some.is) ∙ c.decide.ensures.entry)
    (c.push_reserved.ensures.items ∙ ap (λ (entries : List Entry). entries ++ entry ∷ []) c.requires.sure))

pub returns-in-Err-clause-crash : goal.returns-in-Err-clause-crash
returns-in-Err-clause-crash g c =
    let d = g.D.Disk.disk in
    let old = c.args.journal.now in
    let new = c.add_group.new.journal in
    let history = c.args.host.now.history in
    let stands : Stands (d old.disk) old.gate old.doubt history [] =
    subst (λ (entries : List Entry). Stands (d old.disk) old.gate old.doubt history entries) c.requires.sure
    c.requires.stands in
    crash-grown history c.push_reserved.new.self.items history c.push_reserved.new.self.items (d old.disk) (d new.disk)
    (inr (refl, refl))
    (subst (λ (entries : List Entry). CrashesLeave (StandsForEither history entries) (d old.disk) (d new.disk))
    c.as_slice.ensures.value (c.add_group.ensures.crash history stands))
