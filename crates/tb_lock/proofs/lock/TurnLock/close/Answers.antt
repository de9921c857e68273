use Rattle.std.proofs.Common.{◌≢◌, Result, Ok, Err, IfOk, IfErr, IsOk, IsErr, IsSome, sym, ◌∙◌, subst, refl}
use Rattle.tb_lock.specs.declared.lock.Unserved.{Unserved}
use Rattle.tb_lock.specs.Turns.{Closes, AreOut}
use Rattle.tb_lock.specs.Views.{HasTicket}
use Rattle.tb_lock.proofs.ViewLemmas.{holding-number}
use Rattle.tb_lock.proofs.ClosingLemmas.{all-served, words-differ, words-apart, left-value, same-some}
use Rattle.tb_lock.proofs.lock.TurnLock.close.Goals as goal

-- what follows from a fact of the value at Ok
at-ok : {A E : Type 0} (P Q : A → Type 0) → ((x : A) → P x → Q x) → (r : Result A E) → IfOk r P → IfOk r Q
at-ok P Q follows (Ok x) known = follows x known
at-ok P Q follows (Err e) known = tt

-- what follows from a fact of the error
at-err : {A E : Type 0} (P Q : E → Type 0) → ((e : E) → P e → Q e) → (r : Result A E) → IfErr r P → IfErr r Q
at-err P Q follows (Ok x) known = tt
at-err P Q follows (Err e) known = follows e known

-- a result whose error can't be is Ok
no-err : {A E : Type 0} (P : E → Type 0) → ((e : E) → P e → ⊥) → (r : Result A E) → IfErr r P → IsOk r
no-err P never (Ok x) known = refl
no-err P never (Err e) known = absurd (never e known)

-- and one whose value can't be is an error
no-ok : {A E : Type 0} (P : A → Type 0) → ((x : A) → P x → ⊥) → (r : Result A E) → IfOk r P → IsErr r
no-ok P never (Ok x) known = absurd (never x known)
no-ok P never (Err e) known = refl

pub served_value-requires : goal.served_value-requires
served_value-requires g c = record {
  home = λ same.
      let l = left-value _ _ _ _ _ _ c.shut-left.ensures.left g.met.T.Annals.repeats_stand same c.args.last.live in
      subst (λ o. IsSome o) (sym l.1) refl;
}

pub returns-clause-home : goal.returns-clause-home
returns-clause-home g c = at-ok _ (λ value. Closes g.T.Annals.means c.args.last.seat.me.0 value)
    (λ value served.
    let l = left-value _ _ _ _ _ _ c.shut-left.ensures.left g.met.T.Annals.repeats_stand served.0 c.args.last.live in
    subst (λ y. Closes g.T.Annals.means c.args.last.seat.me.0 y) (same-some l.0 value (sym l.1 ∙ served.1)) l.2)
    c.served_value.result c.served_value.ensures.served

pub returns-clause-whole : goal.returns-clause-whole
returns-clause-whole g c = λ idle whole.
    let same = all-served _ _ _ _ _ _ c.shut-left.ensures.left (c.args.last.rests idle).0 whole in
    no-err _ (λ told unserved. unserved.0 same) c.served_value.result c.served_value.ensures.unserved

pub returns-clause-out : goal.returns-clause-out
returns-clause-out g c = λ holds.
    let n = holding-number c.args.last.seat.me.0.stage (c.args.last.held holds).0 in
    let apart = words-differ _ _ _ _ _ _ c.shut-left.ensures.left n.0 (subst (HasTicket n.0) (sym n.1) refl) in
    no-ok _ (λ value served. apart served.0) c.served_value.result c.served_value.ensures.served

pub returns-clause-unserved : goal.returns-clause-unserved
returns-clause-unserved g c = at-err _ (λ words. words.ticket ≢ words.serving)
    (λ told unserved. subst (λ (words : Unserved). words.ticket ≢ words.serving) (sym unserved.1) unserved.0)
    c.served_value.result c.served_value.ensures.unserved

pub returns-clause-tickets : goal.returns-clause-tickets
returns-clause-tickets g c = at-err _ (λ words. AreOut c.args.last.seat.me.0 words.ticket words.serving)
    (λ told unserved. subst (λ (words : Unserved). AreOut c.args.last.seat.me.0 words.ticket words.serving)
    (sym unserved.1)
    (words-apart _ _ _ _ _ _ c.shut-left.ensures.left c.args.last.live unserved.0))
    c.served_value.result c.served_value.ensures.unserved
