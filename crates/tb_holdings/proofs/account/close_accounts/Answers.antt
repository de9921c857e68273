-- An account of the security is taken out at its place.
use Rattle.std.proofs.Common.{◌-◌, ◌<◌, length, not, ap, sym, ◌∙◌, arith}
use Rattle.tb_holdings.specs.declared.account.Account.{Account}
use Rattle.tb_holdings.specs.Holdings.{is_of}
use Rattle.tb_holdings.proofs.AccountLemmas.{account_key}
use Rattle.tb_holdings.proofs.KeyLemmas.{AreKeyed-order, HasKeyAt-read, removed-at}
use Rattle.tb_holdings.proofs.WalkLemmas.{length-walked, walked-out}
use Rattle.tb_holdings.proofs.account.close_accounts.Goals as goal

pub loop-place-preserved-then-is_of : goal.loop-place-preserved-then-is_of
loop-place-preserved-then-is_of c =
    let test = λ (account : Account). not (is_of c.args.security account) in
    let all = c.args.accounts.now.elements in
    let left = c.loop-place.accounts.elements in
    let after = c.loop-place.place in
    let place = after - 1 in
    let account = c.at-account.result.now in
    let some = c.loop-place-test.true in
    let so_far = c.loop-place.invariant in
    let within : place < length left = omega (arith, some, length-walked test after all left so_far.walked) in
    record {
      walked = record {
        is = removed-at account_key (account_key account) left c.remove.new.self.elements place c.remove.result
            so_far.in_order (HasKeyAt-read account_key left place account within c.at-account.ensures)
            (record { none = c.remove.ensures.none.0; removed = c.remove.ensures.removed; same = c.remove.ensures.key })
            ∙ walked-out test place after all left account so_far.walked (omega (arith, some))
            (ap test (sym c.at-account.ensures) ∙ ap not (sym c.is_of.ensures ∙ c.if-is_of.true));
        within = omega (arith, so_far.walked.within);
      };
      in_order = AreKeyed-order account_key c.remove.new.self.elements c.remove.ensures.ordered;
      spare = c.remove.ensures.spare ∙ so_far.spare;
    }
