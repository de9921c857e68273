-- The credits of a settlement, one after another.
use Rattle.std.proofs.Common.{◌≡◌, ℕ, ◌+◌, ◌<◌, ◌≤◌, ◌==◌, Bool, true, false, Option, Some, None, List, [], ◌∷◌, ◌++◌}
use Rattle.std.proofs.Common.{length, get_or, take, sum_by, refl, sym, ap, ◌∙◌, arith, eq-eqb}
use Rattle.std.specs.Prelude.{if◌then◌else◌}
use Rattle.std.proofs.lemmas.Bool.{cond-true}
use Rattle.std.proofs.lemmas.List.{map_more}
use Rattle.std.proofs.lemmas.List.Sums.{sum_by-append, sum_by-cons, sum_by_more_le}
use Rattle.tb_holdings.specs.Book.{Book, total_of, most_held}
use Rattle.tb_movements.specs.Movements.{Credit, credited_in_all}
use Rattle.tb_movements.specs.Credits.{CreditsBook}
use Rattle.tb_history.specs.declared.roster.Registration.{Registration}
use Rattle.tb_history.specs.declared.roster.Enrolment.{Enrolment}
use Rattle.tb_history.specs.declared.accounts.AddOn.{AddOn}
use Rattle.tb_history.specs.Awarded.{Bidding, awarded, par_in_all}
use Rattle.tb_history.specs.Holdings.{if_awarded}
use Rattle.tb_award.specs.declared.outcome.Cut.{Cut}
use Rattle.tb_award.specs.declared.outcome.Outcome.{Outcome}
use Rattle.tb_award.specs.declared.outcome.Outcome.TheVariants as outcome
use Rattle.tb_ledger.specs.Credits.{add_on_credit, add_on_for, credit_for, credits_for}

-- the credits so far, and one more
pub credits_more : (submitters : List Registration) (bidding : Bidding) (bidders : List Enrolment)
    (place : ℕ) (e : Enrolment)
    → place < length bidders
    → e ≡ get_or bidders place e
    → credits_for submitters bidding (take (place + 1) bidders)
    ≡ credits_for submitters bidding (take place bidders) ++ credit_for submitters bidding e ∷ []
credits_more submitters bidding bidders place e short is =
    map_more (credit_for submitters bidding) bidders place e short
    ∙ ap (λ one. credits_for submitters bidding (take place bidders) ++ credit_for submitters bidding one ∷ []) (sym is)

-- credits come to the awards
credits_sum : (submitters : List Registration) (bidding : Bidding) (bidders : List Enrolment)
    → credited_in_all (credits_for submitters bidding bidders)
    ≡ sum_by (λ (e : Enrolment). awarded bidding e.bidder) bidders
credits_sum submitters bidding [] = refl
credits_sum submitters bidding (e ∷ bidders) =
    let par : Credit → ℕ = λ (credit : Credit). credit.par in
    let award : Enrolment → ℕ = λ (x : Enrolment). awarded bidding x.bidder in
    sum_by-cons par (credit_for submitters bidding e) (credits_for submitters bidding bidders)
    ∙ (ap (λ n. award e + n) (credits_sum submitters bidding bidders) ∙ sym (sum_by-cons award e bidders))

-- the next credit fits, since all of them do
pub next_fits : (submitters : List Registration) (bidding : Bidding) (bidders : List Enrolment)
    (place : ℕ) (e : Enrolment)
    (security par : ℕ) (first now : Book)
    → place < length bidders
    → e ≡ get_or bidders place e
    → par ≡ awarded bidding e.bidder
    → total_of security first + credited_in_all (credits_for submitters bidding bidders) ≤ most_held
    → CreditsBook security (credits_for submitters bidding (take place bidders)) first now
    → total_of security now + par ≤ most_held
next_fits submitters bidding bidders place e security par first now short is award limit so_far =
    let given : List Credit = credits_for submitters bidding (take place bidders) in
    omega (
      arith,
      so_far.total security,
      cond-true (security == security) (credited_in_all given) 0 (eq-eqb security security refl),
      credits_sum submitters bidding (take place bidders),
      credits_sum submitters bidding bidders,
      sum_by_more_le (λ (x : Enrolment). awarded bidding x.bidder) bidders place e short,
      ap (λ (x : Enrolment). awarded bidding x.bidder) is,
      award,
      limit,
    )

-- what isn't cut has no awards
pub none-cut : (answer : Outcome) → ((cut : Cut) → answer ≡ outcome.Cut cut → ⊥) → answer ≡ outcome.NoAwards
none-cut outcome.NoAwards apart = refl
none-cut (outcome.Cut cut) apart = absurd (apart cut refl)

-- no add-on is credited where nothing is awarded
pub add_on_for-nothing : (submitters : List Registration) (bidding : Bidding) (add_on : Option AddOn)
    → par_in_all bidding ≡ 0
    → add_on_for submitters (if_awarded bidding add_on) ≡ []
add_on_for-nothing submitters bidding add_on none = rw (eq-eqb (par_in_all bidding) 0 none) refl

-- nor where there is none
pub add_on_for-none : (submitters : List Registration) (bidding : Bidding)
    → add_on_for submitters (if_awarded bidding None) ≡ []
add_on_for-none submitters bidding = by_test (par_in_all bidding == 0)
  where
    -- whether anything is awarded or not
    by_test : (nothing : Bool) → add_on_for submitters (if nothing then None else None) ≡ []
    by_test true = refl
    by_test false = refl

-- and else it is credited to its holder
pub add_on_for-awarded : (submitters : List Registration) (bidding : Bidding) (x : AddOn)
    → (par_in_all bidding == 0) ≡ false
    → add_on_for submitters (if_awarded bidding (Some x)) ≡ add_on_credit submitters x ∷ []
add_on_for-awarded submitters bidding x some = rw some refl

-- one credit comes to its par
pub credited-one : (credit : Credit) → credited_in_all (credit ∷ []) ≡ credit.par
credited-one credit = omega arith

-- credits behind others come to both sums
pub credited-joined : (one other : List Credit)
    → credited_in_all (one ++ other) ≡ credited_in_all one + credited_in_all other
credited-joined one other = sum_by-append (λ (credit : Credit). credit.par) one other
