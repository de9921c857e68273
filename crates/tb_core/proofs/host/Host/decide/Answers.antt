-- The history is legal, so that replies are sealed.
use Rattle.std.proofs.Common.{◌∙◌, subst}
use Rattle.tb_history.specs.Legal.{IsLegal}
use Rattle.tb_history.proofs.SealedLemmas.{IsLegal-sealed}
use Rattle.tb_core.specs.House.{House}
use Rattle.tb_core.specs.Conserved.{IsConserved}
use Rattle.tb_core.specs.Funded.{IsFunded}
use Rattle.tb_core.proofs.ConservedLemmas.{IsConserved-legal}
use Rattle.tb_core.proofs.FundedLemmas.{IsFunded-legal}
use Rattle.tb_core.proofs.host.Host.decide.Goals as goal

pub returns-clause-conserved : goal.returns-clause-conserved
returns-clause-conserved c =
    subst (λ (h : House). IsConserved h.history) c.self.view_is
    (IsConserved-legal c.self.inside.entries.list c.self.invariant.tied.legal)

pub returns-clause-funded : goal.returns-clause-funded
returns-clause-funded c =
    subst (λ (h : House). IsFunded h.history) c.self.view_is
    (IsFunded-legal c.self.inside.entries.list c.self.invariant.tied.legal)

pub returns-clause-sealed : goal.returns-clause-sealed
returns-clause-sealed c still =
    let legal : IsLegal c.args.self.now.history =
    subst (λ (h : House). IsLegal h.history) c.self.view_is c.self.invariant.tied.legal in
    c.verdict.ensures
    ∙ IsLegal-sealed c.args.submitter.now c.args.self.now.history legal c.args.number c.args.moment c.args.message.now
    still
