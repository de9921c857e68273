-- The laws of a book of accounts hold after each change.
use Rattle.std.proofs.Common.{◌≡◌, ◌≢◌, ℕ, ◌+◌, ◌-◌, ◌<◌, ◌≤◌, ◌==◌, nat_lt, if◌then◌else◌, List, [], ◌∷◌, ◌++◌, filter, Contains, None, refl, sym, ◌∙◌, inl, inr, subst, le_trans, eqb-true, eq-eqb, ne_eqb, arith}
use Rattle.std.proofs.lemmas.Bool.{cases_Bool, cases_eq, cond-true, cond-false, and_parts, and_left}
use Rattle.std.proofs.lemmas.List.Elements.{All-nil, Contains-append_left, Contains-push, Contains-push_cases}
use Rattle.tb_units.proofs.ListLemmas.{AllPairs-nil}
use Rattle.tb_units.proofs.SumLemmas.{cond-le}
use Rattle.tb_holdings.specs.declared.account.Account.{Account}
use Rattle.tb_holdings.specs.declared.mark.KeptMark.{KeptMark}
use Rattle.tb_holdings.specs.Holdings.{IsEarlier, is_of, held_in, total_in, with_held, moved, without}
use Rattle.tb_holdings.specs.Marks.{IsEarlierMark, mark_in, pledges_par, pledged_in, is_open_of, open_marks_in, with_mark, with_left, after_redemption, released, cleared}
use Rattle.tb_holdings.specs.Book.{AreKept, most_held, most_open}
use Rattle.tb_holdings.proofs.AccountLemmas.{AreInOrder-with_held, AreInOrder-without, HoldSomething-with_held, HoldSomething-without}
use Rattle.tb_holdings.proofs.HoldingLemmas.{held_in-with_held_same, held_in-with_held_other, total_in-with_held_same, total_in-with_held_other, held_in-le-total_in, held_in-of, held_in-append, held_in-without_other, total_in-without, total_in-of, total_in-append}
use Rattle.tb_holdings.proofs.MarkLemmas.{MarksAreInOrder-with_mark, MarksAreInOrder-with_left, pledged_in-with_mark, open_marks_in-with_mark, pledged_in-le, open_marks_in-le, released_less, cleared_less, pledged_in-cleared, pledged_in-cleared_other}

-- the laws hold of the empty book
AreKept-empty : AreKept [] [] [] []
AreKept-empty = record {
  in_order = AllPairs-nil IsEarlier;
  none_empty = All-nil (λ account. 0 < account.held);
  marks_in_order = AllPairs-nil IsEarlierMark;
  limited = λ _. omega arith;
  covered = λ _ _. omega arith;
  few_open = λ _. omega arith;
  none_redeemed = λ _ _. refl;
  only_redeemed = λ _ _. refl;
  paid_limited = λ _. omega arith;
}

-- the holder may have so much: the security isn't redeemed, its limit is kept and the holder's pledges are covered
pub record MayHold (holder security held : ℕ)
    (accounts : List Account) (marks : List KeptMark) (redeemed : List ℕ) : Type 0 where
  pub live : ¬ (Contains redeemed security)
  pub fits : total_in security accounts + held ≤ most_held + held_in holder security accounts
  pub enough : pledged_in holder security marks ≤ held

-- then the laws hold once it has
pub AreKept-with_held : (holder security held : ℕ)
    (accounts : List Account) (marks : List KeptMark) (redeemed : List ℕ) (paid : List Account)
    → AreKept accounts marks redeemed paid
    → MayHold holder security held accounts marks redeemed
    → AreKept (with_held holder security held accounts) marks redeemed paid
AreKept-with_held holder security held accounts marks redeemed paid kept may = record {
  in_order = AreInOrder-with_held holder security held accounts kept.in_order;
  none_empty = HoldSomething-with_held holder security held accounts kept.none_empty;
  marks_in_order = kept.marks_in_order;
  limited = λ other. elim (cases_eq other security) [
    | inl same ↦
        rw same
        (let sum = total_in-with_held_same holder security held accounts in
        let fits = may.fits in
        omega arith)
    | inr differs ↦ rw (total_in-with_held_other holder security held other accounts differs) (kept.limited other)
  ];
  covered = λ other other_security. elim (cases_eq other holder) [
    | inl same ↦ elim (cases_eq other_security security) [
      | inl same_security ↦ rw (same, same_security, held_in-with_held_same holder security held accounts) may.enough
      | inr differs ↦
          rw (held_in-with_held_other holder security held other other_security accounts (λ _ is. differs is))
          (kept.covered other other_security)
    ]
    | inr differs ↦
        rw (held_in-with_held_other holder security held other other_security accounts (λ is _. differs is))
        (kept.covered other other_security)
  ];
  few_open = kept.few_open;
  none_redeemed = λ other has. elim (cases_eq other security) [
    | inl same ↦ absurd (may.live (let P : ℕ → Type 0 = Contains redeemed in subst P same has))
    | inr differs ↦ total_in-with_held_other holder security held other accounts differs ∙ kept.none_redeemed other has
  ];
  only_redeemed = kept.only_redeemed;
  paid_limited = kept.paid_limited;
}

-- the par may move: the security isn't redeemed, it goes to another, and so much is free
pub record MayMove (from to security par : ℕ)
    (accounts : List Account) (marks : List KeptMark) (redeemed : List ℕ) : Type 0 where
  pub live : ¬ (Contains redeemed security)
  pub apart : from ≢ to
  pub free : par + pledged_in from security marks ≤ held_in from security accounts

-- then the laws hold once it has
pub AreKept-moved : (from to security par : ℕ)
    (accounts : List Account) (marks : List KeptMark) (redeemed : List ℕ) (paid : List Account)
    → AreKept accounts marks redeemed paid
    → MayMove from to security par accounts marks redeemed
    → AreKept (moved from to security par accounts) marks redeemed paid
AreKept-moved from to security par accounts marks redeemed paid kept may =
    let less : ℕ = held_in from security accounts - par in
    let between : List Account = with_held from security less accounts in
    let theirs : held_in to security between ≡ held_in to security accounts =
    held_in-with_held_other from security less to security accounts (λ is _. may.apart (sym is)) in
    let sum = total_in-with_held_same from security less accounts in
    let limit = kept.limited security in
    let free = may.free in
    let sent : AreKept between marks redeemed paid =
    AreKept-with_held from security less accounts marks redeemed paid kept
    (record { live = may.live; fits = omega arith; enough = omega arith }) in
    let covered = kept.covered to security in
    AreKept-with_held to security (held_in to security accounts + par) between marks redeemed paid sent
    (record { live = may.live; fits = omega (arith, theirs, sum); enough = omega arith })

-- the mark may be added: it is new, so much is free, and the holder may have one more
pub record MayAdd (mark : KeptMark) (accounts : List Account) (marks : List KeptMark) : Type 0 where
  pub new : mark_in mark.holder mark.number marks ≡ None
  pub free : mark.left + pledged_in mark.holder mark.security marks ≤ held_in mark.holder mark.security accounts
  pub few : open_marks_in mark.holder marks < most_open

-- what is pledged with the mark is held
covered_with_mark : (mark : KeptMark) (accounts : List Account) (marks : List KeptMark)
    → ((holder security : ℕ) → pledged_in holder security marks ≤ held_in holder security accounts)
    → MayAdd mark accounts marks
    → (holder security : ℕ) → pledged_in holder security (with_mark mark marks) ≤ held_in holder security accounts
covered_with_mark mark accounts marks covered may holder security =
    elim (cases_Bool (pledges_par holder security mark)) [
      | inl same ↦
          let parts = and_parts (mark.holder == holder) (mark.security == security) same in
          rw (sym (eqb-true mark.holder holder parts.0), sym (eqb-true mark.security security parts.1))
          (let sum = pledged_in-with_mark mark.holder mark.security mark marks may.new in
          let most = cond-le (pledges_par mark.holder mark.security mark) mark.left in
          let free = may.free in
          omega arith)
      | inr differs ↦
          let sum = pledged_in-with_mark holder security mark marks may.new in
          let none = cond-false (pledges_par holder security mark) mark.left 0 differs in
          let enough = covered holder security in
          omega arith
    ]

-- no holder has too many open marks with it
few_with_mark : (mark : KeptMark) (accounts : List Account) (marks : List KeptMark)
    → ((holder : ℕ) → open_marks_in holder marks ≤ most_open)
    → MayAdd mark accounts marks
    → (holder : ℕ) → open_marks_in holder (with_mark mark marks) ≤ most_open
few_with_mark mark accounts marks few_open may holder =
    elim (cases_Bool (mark.holder == holder)) [
      | inl same ↦
          rw (sym (eqb-true mark.holder holder same))
          (let sum = open_marks_in-with_mark mark.holder mark marks may.new in
          let most = cond-le (is_open_of mark.holder mark) 1 in
          let few = may.few in
          omega arith)
      | inr differs ↦
          let sum = open_marks_in-with_mark holder mark marks may.new in
          let none = cond-false {A = ℕ} (is_open_of holder mark) 1 0
          (and_left (mark.holder == holder) (nat_lt 0 mark.left) differs) in
          let enough = few_open holder in
          omega arith
    ]

-- then the laws hold with it
pub AreKept-with_mark : (mark : KeptMark)
    (accounts : List Account) (marks : List KeptMark) (redeemed : List ℕ) (paid : List Account)
    → AreKept accounts marks redeemed paid
    → MayAdd mark accounts marks
    → AreKept accounts (with_mark mark marks) redeemed paid
AreKept-with_mark mark accounts marks redeemed paid kept may = record {
  in_order = kept.in_order;
  none_empty = kept.none_empty;
  marks_in_order = MarksAreInOrder-with_mark mark marks kept.marks_in_order;
  limited = kept.limited;
  covered = covered_with_mark mark accounts marks kept.covered may;
  few_open = few_with_mark mark accounts marks kept.few_open may;
  none_redeemed = kept.none_redeemed;
  only_redeemed = kept.only_redeemed;
  paid_limited = kept.paid_limited;
}

-- the laws hold where less is left of each mark
AreKept-with_left : (left_of : KeptMark → ℕ)
    → ((mark : KeptMark) → left_of mark ≤ mark.left)
    → (accounts : List Account) (marks : List KeptMark) (redeemed : List ℕ) (paid : List Account)
    → AreKept accounts marks redeemed paid
    → AreKept accounts (with_left left_of marks) redeemed paid
AreKept-with_left left_of less accounts marks redeemed paid kept = record {
  in_order = kept.in_order;
  none_empty = kept.none_empty;
  marks_in_order = MarksAreInOrder-with_left left_of marks kept.marks_in_order;
  limited = kept.limited;
  covered = λ holder security.
      le_trans (pledged_in-le left_of less holder security marks) (kept.covered holder security);
  few_open = λ holder. le_trans (open_marks_in-le left_of less holder marks) (kept.few_open holder);
  none_redeemed = kept.none_redeemed;
  only_redeemed = kept.only_redeemed;
  paid_limited = kept.paid_limited;
}

-- and so after a release
pub AreKept-released : (holder number par : ℕ)
    (accounts : List Account) (marks : List KeptMark) (redeemed : List ℕ) (paid : List Account)
    → AreKept accounts marks redeemed paid
    → AreKept accounts (released holder number par marks) redeemed paid
unfolding released
AreKept-released holder number par accounts marks redeemed paid kept =
    AreKept-with_left _ (released_less holder number par) accounts marks redeemed paid kept

-- what is pledged after a redemption is held
covered_redeemed : (security : ℕ) (accounts : List Account) (marks : List KeptMark)
    → ((holder other : ℕ) → pledged_in holder other marks ≤ held_in holder other accounts)
    → (holder other : ℕ)
    → pledged_in holder other (cleared security marks) ≤ held_in holder other (without security accounts)
covered_redeemed security accounts marks covered holder other =
    elim (cases_eq other security) [
      | inl same ↦ rw (same, pledged_in-cleared holder security marks) (omega arith)
      | inr differs ↦
          rw (
            pledged_in-cleared_other holder security other marks differs,
            held_in-without_other holder other security accounts differs,
          ) (covered holder other)
    ]

-- nothing is held of what was redeemed before or is now
none_redeemed_now : (security : ℕ) (accounts : List Account) (redeemed : List ℕ)
    → ((other : ℕ) → Contains redeemed other → total_in other accounts ≡ 0)
    → (other : ℕ)
    → Contains (redeemed ++ security ∷ []) other
    → total_in other (without security accounts) ≡ 0
none_redeemed_now security accounts redeemed none_redeemed other has =
    let part = total_in-without other security accounts in
    elim (Contains-push_cases redeemed security other has) [
      | inl before ↦ let none = none_redeemed other before in omega arith
      | inr same ↦
          let all = cond-true (security == other) (total_in other accounts) 0 (eq-eqb security other same) in
          omega arith
    ]

-- what was paid of a security with what is paid of one now
total_paid : (security other : ℕ) (accounts paid : List Account)
    → total_in other (paid ++ filter (is_of security) accounts)
    ≡ total_in other paid + (if security == other then total_in other accounts else 0)
total_paid security other accounts paid =
    omega (arith, total_in-append other paid (filter (is_of security) accounts), total_in-of other security accounts)

-- only what was redeemed was paid
only_redeemed_now : (security : ℕ) (accounts paid : List Account) (redeemed : List ℕ)
    → ((other : ℕ) → ¬ (Contains redeemed other) → total_in other paid ≡ 0)
    → (other : ℕ)
    → ¬ (Contains (redeemed ++ security ∷ []) other)
    → total_in other (paid ++ filter (is_of security) accounts) ≡ 0
only_redeemed_now security accounts paid redeemed only_redeemed other has_not =
    let P : ℕ → Type 0 = Contains (redeemed ++ security ∷ []) in
    let differs : security ≢ other = λ same. has_not (subst P same (Contains-push redeemed security)) in
    let before = only_redeemed other (λ has. has_not (Contains-append_left redeemed (security ∷ []) other has)) in
    omega (
      arith,
      total_paid security other accounts paid,
      cond-false (security == other) (total_in other accounts) 0 (ne_eqb security other differs),
      before,
    )

-- nothing was paid beyond the limit
paid_limited_now : (security : ℕ)
    (accounts : List Account) (marks : List KeptMark) (redeemed : List ℕ) (paid : List Account)
    → AreKept accounts marks redeemed paid
    → ¬ (Contains redeemed security)
    → (other : ℕ) → total_in other (paid ++ filter (is_of security) accounts) ≤ most_held
paid_limited_now security accounts marks redeemed paid kept live other =
    elim (cases_eq other security) [
      | inl same ↦ rw same
          (let none = kept.only_redeemed security live in
          let limit = kept.limited security in
          let most = cond-le (security == security) (total_in security accounts) in
          omega (arith, total_paid security security accounts paid, most, none))
      | inr differs ↦
          let none = cond-false (security == other) (total_in other accounts) 0
          (ne_eqb security other (λ is. differs (sym is))) in
          let limit = kept.paid_limited other in
          omega (arith, total_paid security other accounts paid, none)
    ]

-- the laws hold once the accounts of a security are paid off and its pledges end
pub AreKept-redeemed : (security : ℕ)
    (accounts : List Account) (marks : List KeptMark) (redeemed : List ℕ) (paid : List Account)
    → AreKept accounts marks redeemed paid
    → ¬ (Contains redeemed security)
    → AreKept (without security accounts) (cleared security marks)
    (redeemed ++ security ∷ []) (paid ++ filter (is_of security) accounts)
unfolding cleared
AreKept-redeemed security accounts marks redeemed paid kept live = record {
  in_order = AreInOrder-without security accounts kept.in_order;
  none_empty = HoldSomething-without security accounts kept.none_empty;
  marks_in_order = MarksAreInOrder-with_left (after_redemption security) marks kept.marks_in_order;
  limited = λ other.
      let part = total_in-without other security accounts in
      let limit = kept.limited other in
      omega arith;
  covered = covered_redeemed security accounts marks kept.covered;
  few_open = λ holder.
      le_trans (open_marks_in-le (after_redemption security) (cleared_less security) holder marks)
      (kept.few_open holder);
  none_redeemed = none_redeemed_now security accounts redeemed kept.none_redeemed;
  only_redeemed = only_redeemed_now security accounts paid redeemed kept.only_redeemed;
  paid_limited = paid_limited_now security accounts marks redeemed paid kept live;
}

-- nobody holds more than the limit of a security
pub held_in-limit : {accounts : List Account} {marks : List KeptMark} {redeemed : List ℕ} {paid : List Account}
    → AreKept accounts marks redeemed paid
    → (holder security : ℕ) → held_in holder security accounts ≤ most_held
held_in-limit {accounts} kept holder security =
    le_trans (held_in-le-total_in holder security accounts) (kept.limited security)

-- nobody was paid more
pub paid-limit : {accounts : List Account} {marks : List KeptMark} {redeemed : List ℕ} {paid : List Account}
    → AreKept accounts marks redeemed paid
    → (holder security : ℕ) → held_in holder security paid ≤ most_held
paid-limit {accounts} {marks} {redeemed} {paid} kept holder security =
    le_trans (held_in-le-total_in holder security paid) (kept.paid_limited security)

-- nobody has pledged more
pub pledged_in-limit : {accounts : List Account} {marks : List KeptMark} {redeemed : List ℕ} {paid : List Account}
    → AreKept accounts marks redeemed paid
    → (holder security : ℕ) → pledged_in holder security marks ≤ most_held
pledged_in-limit kept holder security = le_trans (kept.covered holder security) (held_in-limit kept holder security)

-- a security that isn't redeemed was paid to nobody
pub paid-none : {accounts : List Account} {marks : List KeptMark} {redeemed : List ℕ} {paid : List Account}
    → AreKept accounts marks redeemed paid
    → (holder security : ℕ)
    → ¬ (Contains redeemed security)
    → held_in holder security paid ≡ 0
paid-none {accounts} {marks} {redeemed} {paid} kept holder security live =
    omega (arith, held_in-le-total_in holder security paid, kept.only_redeemed security live)

-- a redemption pays each holder what it held
pub held_in-paid : {accounts : List Account} {marks : List KeptMark} {redeemed : List ℕ} {paid : List Account}
    → AreKept accounts marks redeemed paid
    → (holder security : ℕ)
    → ¬ (Contains redeemed security)
    → held_in holder security (paid ++ filter (is_of security) accounts) ≡ held_in holder security accounts
held_in-paid {accounts} {marks} {redeemed} {paid} kept holder security live =
    omega (
      arith,
      held_in-append holder security paid (filter (is_of security) accounts),
      paid-none kept holder security live,
      held_in-of holder security security accounts,
      cond-true (security == security) (held_in holder security accounts) 0 (eq-eqb security security refl),
    )
