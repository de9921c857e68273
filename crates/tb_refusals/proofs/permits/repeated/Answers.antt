-- Messages that are equal are the same, member by member.
use Rattle.std.proofs.Common.{◌≡◌, ◌∙◌, true, false, refl, sym}
use Rattle.tb_history.specs.Same.{same_message}
use Rattle.tb_refusals.proofs.EqualLemmas.{equal_messages}
use Rattle.tb_refusals.proofs.permits.repeated.Goals as goal

pub returns-then-eq : goal.returns-then-eq
returns-then-eq c =
    let same : same_message c.args.entry.now.message c.args.message.now ≡ true =
    sym (equal_messages c.args.entry.now.message c.args.message.now) ∙ (sym c.eq.ensures ∙ c.if-eq.true) in
    rw same refl

pub returns : goal.returns
returns c =
    let other : same_message c.args.entry.now.message c.args.message.now ≡ false =
    sym (equal_messages c.args.entry.now.message c.args.message.now) ∙ (sym c.eq.ensures ∙ c.if-eq.false) in
    rw other refl
