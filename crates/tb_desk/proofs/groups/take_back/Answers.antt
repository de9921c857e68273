-- The last entry of the group that is left is taken back.
use Rattle.std.proofs.Common.{◌≡◌, ◌+◌, ◌-◌, ◌++◌, ◌∷◌, [], ℕ, List, take, ap, sym, ◌∙◌, subst, arith, append_assoc}
use Rattle.std.proofs.lemmas.List.{append_cancel_right}
use Rattle.tb_message.specs.declared.message.Entry.{Entry}
use Rattle.tb_core.specs.House.{EndsWithBid}
use Rattle.tb_desk.proofs.JudgeLemmas.{ends-with, last-taken}
use Rattle.tb_desk.proofs.groups.take_back.Goals as goal

pub take_back-requires : goal.take_back-requires
take_back-requires c =
    let grown = c.requires.grown in
    let group = c.args.group.now in
    let left : ℕ = c.loop-left.left in
    let one_more : left ≡ left - 1 + 1 = omega (arith, c.loop-left-test.true) in
    let is : c.loop-left.host.history ≡ grown.0 ++ take (left - 1 + 1) group =
    c.loop-left.invariant.history grown.0 grown.1 ∙ ap (λ (n : ℕ). grown.0 ++ take n group) one_more in
    subst (λ (history : List Entry). EndsWithBid history c.moment_before.result) (sym is)
    (ends-with grown.0 group (left - 1) c.args.before c.args.moment c.moment_before.result
    (omega (arith, c.loop-left-test.true, c.loop-left.invariant.within)) c.requires.bids c.requires.moments grown.2
    c.moment_before.ensures.first c.moment_before.ensures.later)

pub loop-left-preserved : goal.loop-left-preserved
loop-left-preserved c =
    let grown = c.requires.grown in
    let group = c.args.group.now in
    let left : ℕ = c.loop-left.left in
    let one_more : left ≡ left - 1 + 1 = omega (arith, c.loop-left-test.true) in
    let last = last-taken group (left - 1) (omega (arith, c.loop-left-test.true, c.loop-left.invariant.within)) in
    let is : c.loop-left.host.history ≡ (grown.0 ++ take (left - 1) group) ++ last.0 ∷ [] =
    c.loop-left.invariant.history grown.0 grown.1
    ∙ (ap (λ (n : ℕ). grown.0 ++ take n group) one_more
    ∙ (ap (λ (entries : List Entry). grown.0 ++ entries) last.1
    ∙ sym (append_assoc grown.0 (take (left - 1) group) (last.0 ∷ [])))) in
    let taken : c.take_back.new.self.history ≡ grown.0 ++ take (left - 1) group =
    c.take_back.ensures.history (grown.0 ++ take (left - 1) group) last.0 is in
    record {
      within = omega (arith, c.loop-left.invariant.within);
      history = λ earlier whole. taken
          ∙ ap (λ (entries : List Entry). entries ++ take (left - 1) group)
          (append_cancel_right grown.0 earlier group (sym grown.1 ∙ whole));
    }
