-- What the accounts give is what the history says.
use Rattle.std.proofs.Common.{◌≡◌, ◌∙◌, ap, subst, sym, true}
use Rattle.tb_message.specs.declared.message.Message.TheVariants as message
use Rattle.tb_terms.specs.Rows.{refusal_in}
use Rattle.tb_history.specs.Roster.{registrations, is_registered}
use Rattle.tb_history.specs.Tables.{rows_of}
use Rattle.tb_core.specs.House.{House}
use Rattle.tb_refusals.specs.ParRows.{kept_release_rows}
use Rattle.tb_core.proofs.ReadyLemmas.{AreFew-tied}
use Rattle.tb_core.proofs.ParRowLemmas.{tied_release}
use Rattle.tb_core.proofs.host.Host.release.Goals as goal

pub find_pledge-found-requires : goal.find_pledge-found-requires
find_pledge-found-requires c =
    (AreFew-tied c.self.inside.entries.list c.self.inside.tables c.self.invariant.tied).submitters

pub holder_number-caller-requires : goal.holder_number-caller-requires
holder_number-caller-requires c =
    (AreFew-tied c.self.inside.entries.list c.self.inside.tables c.self.invariant.tied).submitters

pub returns : goal.returns
returns c moment =
    subst (λ (h : House). c.release_refusal.result
    ≡ refusal_in (rows_of h.history c.args.sender.now moment
    (message.Release c.args.holder.now c.args.number c.args.amount)))
    c.self.view_is
    (c.release_refusal.ensures
    ∙ (ap (λ n. refusal_in (kept_release_rows c.find_pledge-found.result n c.args.amount.value))
    c.holder_number-caller.ensures
    ∙ ap refusal_in (tied_release c.self.inside.entries.list c.self.inside.tables c.self.invariant.tied
    c.args.sender.now c.args.holder.now c.args.number c.args.amount.value
    (subst (λ (h : House). is_registered (registrations h.history) c.args.sender.now ≡ true)
    (sym c.self.view_is) c.requires)
    c.find_pledge-found.result c.find_pledge-found.ensures.none c.find_pledge-found.ensures.found)))
