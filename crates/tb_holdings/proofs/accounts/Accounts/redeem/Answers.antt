-- The accounts of the security are paid off, so the room that they took is free again.
use Rattle.std.proofs.Common.{◌≡◌, ◌+◌, ◌≤◌, not, refl, ap, ◌∙◌, filter, length, length-append, vec_len, arith}
use Rattle.std.proofs.lemmas.List.Filters.{length-filter_both}
use Rattle.tb_holdings.specs.Holdings.{is_of, held_in, total_in, without}
use Rattle.tb_holdings.specs.Marks.{pledged_in, open_marks_in}
use Rattle.tb_holdings.proofs.MarkLemmas.{pledged_in-cleared, pledged_in-cleared_other, open_marks_in-cleared}
use Rattle.tb_holdings.proofs.KeptLemmas.{AreKept-redeemed, held_in-paid}
use Rattle.tb_holdings.proofs.RunLemmas.{HaveNoRun-live}
use Rattle.tb_holdings.proofs.HoldingLemmas.{held_in-without_other, held_in-append_of_other, total_in-without_other, total_in-without_same}
use Rattle.tb_holdings.proofs.accounts.Accounts.redeem.Goals as goal

-- an account leaves or stays
leave_or_stay : (c : goal.After-push_reserved)
    → length (filter (is_of c.args.security) c.self.inside.accounts.elements)
    + length (without c.args.security c.self.inside.accounts.elements)
    ≡ length c.self.inside.accounts.elements
leave_or_stay c =
    length-filter_both (is_of c.args.security) (λ account. not (is_of c.args.security account)) (λ _. refl)
    c.self.inside.accounts.elements

-- each account that leaves is paid
same_count : (c : goal.After-push_reserved)
    → length c.close_accounts.new.accounts.elements + vec_len c.pay_off.new.paid
    ≡ length c.self.inside.accounts.elements + vec_len c.self.inside.paid
same_count c =
    let inside = c.self.inside in
    omega (
      arith,
      c.pay_off.new.paid.ok.0,
      inside.paid.ok.0,
      ap length c.close_accounts.ensures.accounts,
      ap length c.pay_off.ensures.paid,
      length-append inside.paid.items (filter (is_of c.args.security) inside.accounts.elements),
      leave_or_stay c,
    )

-- no account is added
fewer : (c : goal.After-push_reserved)
    → length c.close_accounts.new.accounts.elements ≤ length c.self.inside.accounts.elements
fewer c = omega (arith, ap length c.close_accounts.ensures.accounts, leave_or_stay c)

pub invariant_of-self : goal.invariant_of-self
invariant_of-self c =
    let inside = c.self.inside in
    let live = rw (← c.self.view_is) at c.requires.live in (
      rw (
        c.close_accounts.ensures.accounts,
        c.clear.ensures.list,
        c.push_reserved.ensures.items,
        c.pay_off.ensures.paid,
      )
          (AreKept-redeemed c.args.security
          inside.accounts.elements inside.marks.list inside.redeemed.items inside.paid.items c.self.invariant.0 live),
      omega (arith, same_count c, c.pay_off.ensures.capacity, c.self.invariant.1),
      c.pay_off.ensures.runs,
      rw c.push_reserved.ensures.items
          (c.pay_off.ensures.runs_of inside.redeemed.items c.self.invariant.3),
    )

-- the security has no run yet
pub pay_off-requires-clause-new : goal.pay_off-requires-clause-new
pay_off-requires-clause-new c =
    let live = rw (← c.self.view_is) at c.requires.live in
    HaveNoRun-live c.self.inside.redeemed.items c.args.security c.self.inside.runs.items c.self.invariant.3 live

pub returns-clause-room : goal.returns-clause-room
returns-clause-room c =
    rw (← c.self.view_is) (record {
      spare_accounts = omega (
        arith,
        fewer c,
        same_count c,
        c.pay_off.ensures.capacity,
        c.close_accounts.ensures.room,
      );
      spare_marks = omega (arith, c.clear.ensures.room);
      spare_redeems = omega (
        arith,
        c.push_reserved.ensures.len,
        c.push_reserved.ensures.capacity,
        c.pay_off.ensures.one_more,
        c.pay_off.ensures.run_capacity,
      );
    })

pub returns-clause-paid_all : goal.returns-clause-paid_all
returns-clause-paid_all c = λ holder.
    let live = rw (← c.self.view_is) at c.requires.live in
    rw (← c.self.view_is)
    (ap (held_in holder c.args.security) c.pay_off.ensures.paid
    ∙ held_in-paid c.self.invariant.0 holder c.args.security live)

pub returns-clause-none_held : goal.returns-clause-none_held
returns-clause-none_held c =
    ap (total_in c.args.security) c.close_accounts.ensures.accounts
    ∙ total_in-without_same c.args.security c.self.inside.accounts.elements

pub returns-clause-none_pledged : goal.returns-clause-none_pledged
returns-clause-none_pledged c = λ holder.
    ap (pledged_in holder c.args.security) c.clear.ensures.list
    ∙ pledged_in-cleared holder c.args.security c.self.inside.marks.list

pub returns-clause-others : goal.returns-clause-others
returns-clause-others c =
    let inside = c.self.inside in
    rw (← c.self.view_is) (record {
      holdings = λ holder other differs.
          ap (held_in holder other) c.close_accounts.ensures.accounts
          ∙ held_in-without_other holder other c.args.security inside.accounts.elements differs;
      pledges = λ holder other differs.
          ap (pledged_in holder other) c.clear.ensures.list
          ∙ pledged_in-cleared_other holder c.args.security other inside.marks.list differs;
      payments = λ holder other differs.
          ap (held_in holder other) c.pay_off.ensures.paid
          ∙ held_in-append_of_other holder other c.args.security inside.paid.items inside.accounts.elements differs;
      totals = λ other differs.
          ap (total_in other) c.close_accounts.ensures.accounts
          ∙ total_in-without_other other c.args.security inside.accounts.elements differs;
    })

pub returns-clause-open_marks : goal.returns-clause-open_marks
returns-clause-open_marks c = λ holder.
    rw (← c.self.view_is)
    (ap (open_marks_in holder) c.clear.ensures.list
    ∙ open_marks_in-cleared c.args.security holder c.self.inside.marks.list)

pub returns-clause-laws : goal.returns-clause-laws
returns-clause-laws c = (invariant_of-self c).0
