-- Credits that are given one after another.
use Rattle.std.proofs.Common.{◌≡◌, ℕ, ◌+◌, ◌<◌, ◌≤◌, true, false, cond, ◌&&◌, ◌==◌, List, [], ◌∷◌, ◌++◌, length, take, get_or, refl, ap, sym, ◌∙◌, inl, inr, subst, arith, eqb-true}
use Rattle.std.proofs.lemmas.Bool.{cases_Bool, cond-true, cond-false, eqb-false}
use Rattle.std.proofs.lemmas.List.{map_more, take_all}
use Rattle.std.proofs.lemmas.List.Sums.{sum_by_push, sum_by_more_le}
use Rattle.tb_units.proofs.SumLemmas.{sum_by-filter}
use Rattle.tb_holdings.specs.declared.account.Account.{Account}
use Rattle.tb_holdings.specs.Holdings.{held_in, total_in, credited}
use Rattle.tb_holdings.specs.Book.{Book, total_of, held_of, ChangesAccountsOnly}
use Rattle.tb_holdings.proofs.HolderLemmas.{counted_of}
use Rattle.tb_holdings.proofs.HoldingLemmas.{held_in-credited, total_in-credited, total_in-with_held_other}
use Rattle.tb_movements.specs.declared.award.Award.{Award}
use Rattle.tb_movements.specs.Movements.{Credit, credited_to, credited_in_all}
use Rattle.tb_movements.specs.Credits.{credit_of, credits_of, CreditsBook}
use Rattle.tb_movements.proofs.SumLemmas.{sum_by-mapped}

-- what a participant is credited with one credit more
credited_to-push : (holder : ℕ) (credits : List Credit) (credit : Credit)
    → credited_to holder (credits ++ credit ∷ [])
    ≡ credited_to holder credits + cond (holder == credit.holder) credit.par 0
credited_to-push holder credits credit =
    omega (
      arith,
      sum_by-filter (λ one. one.par) (λ one. holder == one.holder) (credits ++ credit ∷ []),
      sum_by-filter (λ one. one.par) (λ one. holder == one.holder) credits,
      sum_by_push (λ one. cond (holder == one.holder) one.par 0) credits credit,
    )

-- what of it is of the security
credited_here-push : (here : ℕ) (security holder : ℕ) (credits : List Credit) (credit : Credit)
    → cond (here == security) (credited_to holder (credits ++ credit ∷ [])) 0
    ≡ cond (here == security) (credited_to holder credits) 0
    + cond (holder == credit.holder && here == security) credit.par 0
credited_here-push here security holder credits credit =
    let sum = credited_to-push holder credits credit in
    let own : ℕ = cond (holder == credit.holder) credit.par 0 in
    let parts : cond (here == security) (credited_to holder (credits ++ credit ∷ [])) 0
    ≡ cond (here == security) (credited_to holder credits) 0 + cond (here == security) own 0 =
    elim (here == security) as (λ is. cond is (credited_to holder (credits ++ credit ∷ [])) 0
    ≡ cond is (credited_to holder credits) 0 + cond is own 0) [ true ↦ sum | false ↦ omega arith ] in
    parts
    ∙ ap (λ n. cond (here == security) (credited_to holder credits) 0 + n)
    (sym (counted_of (holder == credit.holder) (here == security) credit.par))

-- a book that was credited nothing
pub CreditsBook-none : (security : ℕ) (book : Book) → CreditsBook security [] book book
CreditsBook-none security book = record {
  held = λ holder other.
      elim (other == security) as (λ is. held_of holder other book ≡ held_of holder other book + cond is 0 0) [
        | true ↦ omega arith
        | false ↦ omega arith
      ];
  total = λ other.
      elim (other == security) as (λ is. total_of other book ≡ total_of other book + cond is 0 0) [
        | true ↦ omega arith
        | false ↦ omega arith
      ];
  others = record { marks = refl; redeemed = refl; paid = refl };
}

-- the total of a security after a credit of one
total_more : (security other par holder : ℕ) (old new : Book)
    → new.accounts ≡ credited holder security par old.accounts
    → total_of other new ≡ total_of other old + cond (other == security) par 0
total_more security other par holder old new accounts =
    elim (cases_Bool (other == security)) [
      | inl same ↦
          let more : List Account = credited holder security par old.accounts in
          let P : ℕ → Type 0 = λ s. total_in s more ≡ total_in s old.accounts + par in
          let is = sym (eqb-true other security same) in
          let change = subst P is (total_in-credited holder security par old.accounts) in
          omega (arith, ap (total_in other) accounts, change, cond-true {A = ℕ} (other == security) par 0 same)
      | inr differs ↦
          omega (
            arith,
            ap (total_in other) accounts,
            total_in-with_held_other holder security (held_in holder security old.accounts + par) other old.accounts
                (eqb-false other security differs),
            cond-false {A = ℕ} (other == security) par 0 differs,
          )
    ]

-- a book that was credited so much, and one credit more
pub CreditsBook-push : (security : ℕ) (credits : List Credit) (credit : Credit) (first old new : Book)
    → CreditsBook security credits first old
    → new.accounts ≡ credited credit.holder security credit.par old.accounts
    → ChangesAccountsOnly old new
    → CreditsBook security (credits ++ credit ∷ []) first new
CreditsBook-push security credits credit first old new so_far accounts others = record {
  held = λ holder other.
      omega (
        arith,
        ap (held_in holder other) accounts,
        held_in-credited credit.holder security credit.par holder other old.accounts,
        so_far.held holder other,
        credited_here-push other security holder credits credit,
      );
  total = λ other.
      let sum = sum_by_push (λ (one : Credit). one.par) credits credit in
      let all : cond (other == security) (credited_in_all (credits ++ credit ∷ [])) 0
      ≡ cond (other == security) (credited_in_all credits) 0 + cond (other == security) credit.par 0 =
      elim (other == security) as (λ is. cond is (credited_in_all (credits ++ credit ∷ [])) 0
      ≡ cond is (credited_in_all credits) 0 + cond is credit.par 0) [ true ↦ sum | false ↦ omega arith ] in
      omega (
        arith,
        total_more security other credit.par credit.holder old new accounts,
        so_far.total other,
        all,
      );
  others = record {
    marks = others.marks ∙ so_far.others.marks;
    redeemed = others.redeemed ∙ so_far.others.redeemed;
    paid = others.paid ∙ so_far.others.paid;
  };
}

-- the credits so far, and one more
pub credits_more : (awards : List Award) (i : ℕ) (award : Award)
    → i < length awards
    → award ≡ get_or awards i award
    → credits_of (take (i + 1) awards) ≡ credits_of (take i awards) ++ credit_of award ∷ []
credits_more awards i award short is =
    map_more credit_of awards i award short
    ∙ ap (λ one. credits_of (take i awards) ++ credit_of one ∷ []) (sym is)

-- where the credits so far are all of them
pub CreditsBook-all : (security : ℕ) (awards : List Award) (i : ℕ) (old new : Book)
    → length awards ≤ i
    → CreditsBook security (credits_of (take i awards)) old new
    → CreditsBook security (credits_of awards) old new
CreditsBook-all security awards i old new all change =
    subst (λ given. CreditsBook security (credits_of given) old new) (take_all i awards all) change

-- the next credit fits, since all of them do
pub next_fits : (awards : List Award) (i : ℕ) (award : Award)
    → i < length awards
    → award ≡ get_or awards i award
    → credited_in_all (credits_of (take i awards)) + award.par.value ≤ credited_in_all (credits_of awards)
next_fits awards i award short is =
    let par_of : Award → ℕ = λ one. one.par.value in
    omega (
      arith,
      sum_by_more_le par_of awards i award short,
      ap par_of is,
      sum_by-mapped (λ (one : Credit). one.par) credit_of (take i awards),
      sum_by-mapped (λ (one : Credit). one.par) credit_of awards,
    )
