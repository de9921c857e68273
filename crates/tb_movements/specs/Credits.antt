-- What a settlement does to a book of accounts.
use Rattle.std.specs.Prelude.{◌≡◌, ℕ, ◌+◌, ◌==◌, List, map, if◌then◌else◌}
use Rattle.tb_holdings.specs.Book.{Book, held_of, total_of, ChangesAccountsOnly}
use Rattle.tb_movements.specs.declared.award.Award.{Award}
use Rattle.tb_movements.specs.Movements.{Credit, credited_to, credited_in_all}

-- the credit that the award is
abbrev pub credit_of : Award → Credit
credit_of award = record { holder = award.holder; par = award.par.value }

abbrev pub credits_of : List Award → List Credit
credits_of awards = map credit_of awards

-- each holder was credited its part of the credits, and all else is as before
pub record CreditsBook (security : ℕ) (credits : List Credit) (old new : Book) : Type 0 where
  pub held : (holder other : ℕ)
      → held_of holder other new
      ≡ held_of holder other old + (if other == security then credited_to holder credits else 0)
  pub total : (other : ℕ)
      → total_of other new ≡ total_of other old + (if other == security then credited_in_all credits else 0)
  pub others : ChangesAccountsOnly old new
