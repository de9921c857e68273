-- The history is legal, so that answers are sealed and awards come close.
use Rattle.std.proofs.Common.{◌≡◌, ◌∙◌, Option, Some, None, sym, subst}
use Rattle.tb_terms.specs.declared.refusal.Refusal.{Refusal}
use Rattle.tb_history.specs.Legal.{IsLegal}
use Rattle.tb_history.specs.OwnPart.{own_part}
use Rattle.tb_history.specs.Answer.{query_refusal}
use Rattle.tb_history.proofs.QueryLemmas.{query_refusal-own}
use Rattle.tb_core.specs.Conserved.{IsConserved}
use Rattle.tb_core.specs.Funded.{IsFunded}
use Rattle.tb_core.proofs.ConservedLemmas.{IsConserved-legal}
use Rattle.tb_core.proofs.FundedLemmas.{IsFunded-legal}
use Rattle.tb_core.specs.House.{House}
use Rattle.tb_core.proofs.AnswerLemmas.{IsReading-close, IsReading-own}
use Rattle.tb_core.proofs.host.Host.read.Goals as goal

pub returns-in-Some-clause-sealed_refusal : goal.returns-in-Some-clause-sealed_refusal
returns-in-Some-clause-sealed_refusal c refusal =
    let h = c.args.self.now.history in
    let s = c.args.submitter.now in
    let legal : IsLegal h = subst (λ (x : House). IsLegal x.history) c.self.view_is c.self.invariant.tied.legal in
    let own : query_refusal (own_part s h) s c.args.query.now ≡ Some c.in-Some.refusal =
    sym (query_refusal-own s h legal c.args.query.now) ∙ (sym c.query_refusal.ensures ∙ c.in-Some.is) in
    (λ same. cc, λ there. let found : Some c.in-Some.refusal ≡ Some refusal = sym own ∙ there in cc)

pub returns-in-Ok-clause-sealed_refusal : goal.returns-in-Ok-clause-sealed_refusal
returns-in-Ok-clause-sealed_refusal c refusal =
    let h = c.args.self.now.history in
    let s = c.args.submitter.now in
    let legal : IsLegal h = subst (λ (x : House). IsLegal x.history) c.self.view_is c.self.invariant.tied.legal in
    let own : query_refusal (own_part s h) s c.args.query.now ≡ None =
    sym (query_refusal-own s h legal c.args.query.now) ∙ (sym c.query_refusal.ensures ∙ c.in_default.is) in
    (λ same. cc, λ there. let wrong : ◌≡◌ {A = Option Refusal} None (Some refusal) = sym own ∙ there in cc)

pub returns-in-Ok-clause-sealed_reading : goal.returns-in-Ok-clause-sealed_reading
returns-in-Ok-clause-sealed_reading c auction asks not_yet =
    let h = c.args.self.now.history in
    let legal : IsLegal h = subst (λ (x : House). IsLegal x.history) c.self.view_is c.self.invariant.tied.legal in
    IsReading-own h c.args.submitter.now auction c.args.query.now c.in-Ok.reading legal asks not_yet
    (sym c.query_refusal.ensures ∙ c.in_default.is) c.in-Ok.ensures

pub returns-in-Ok-clause-close : goal.returns-in-Ok-clause-close
returns-in-Ok-clause-close c =
    let h = c.args.self.now.history in
    let legal : IsLegal h = subst (λ (x : House). IsLegal x.history) c.self.view_is c.self.invariant.tied.legal in
    IsReading-close h c.args.submitter.now c.args.query.now c.in-Ok.reading legal c.in-Ok.ensures

pub returns-in-Err-clause-sealed_refusal : goal.returns-in-Err-clause-sealed_refusal
returns-in-Err-clause-sealed_refusal c refusal =
    let h = c.args.self.now.history in
    let s = c.args.submitter.now in
    let legal : IsLegal h = subst (λ (x : House). IsLegal x.history) c.self.view_is c.self.invariant.tied.legal in
    let own : query_refusal (own_part s h) s c.args.query.now ≡ None =
    sym (query_refusal-own s h legal c.args.query.now) ∙ (sym c.query_refusal.ensures ∙ c.in_default.is) in
    (λ same. cc, λ there. let wrong : ◌≡◌ {A = Option Refusal} None (Some refusal) = sym own ∙ there in cc)

pub returns-in-Some-clause-conserved : goal.returns-in-Some-clause-conserved
returns-in-Some-clause-conserved c =
    subst (λ (x : House). IsConserved x.history) c.self.view_is
    (IsConserved-legal c.self.inside.entries.list c.self.invariant.tied.legal)

pub returns-in-Ok-clause-conserved : goal.returns-in-Ok-clause-conserved
returns-in-Ok-clause-conserved c =
    subst (λ (x : House). IsConserved x.history) c.self.view_is
    (IsConserved-legal c.self.inside.entries.list c.self.invariant.tied.legal)

pub returns-in-Err-clause-conserved : goal.returns-in-Err-clause-conserved
returns-in-Err-clause-conserved c =
    subst (λ (x : House). IsConserved x.history) c.self.view_is
    (IsConserved-legal c.self.inside.entries.list c.self.invariant.tied.legal)

pub returns-in-Some-clause-funded : goal.returns-in-Some-clause-funded
returns-in-Some-clause-funded c =
    subst (λ (x : House). IsFunded x.history) c.self.view_is
    (IsFunded-legal c.self.inside.entries.list c.self.invariant.tied.legal)

pub returns-in-Ok-clause-funded : goal.returns-in-Ok-clause-funded
returns-in-Ok-clause-funded c =
    subst (λ (x : House). IsFunded x.history) c.self.view_is
    (IsFunded-legal c.self.inside.entries.list c.self.invariant.tied.legal)

pub returns-in-Err-clause-funded : goal.returns-in-Err-clause-funded
returns-in-Err-clause-funded c =
    subst (λ (x : House). IsFunded x.history) c.self.view_is
    (IsFunded-legal c.self.inside.entries.list c.self.invariant.tied.legal)
