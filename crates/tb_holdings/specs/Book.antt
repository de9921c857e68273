-- The book of accounts, as contracts see it (31 CFR Part 357, Subpart B).
use Rattle.std.specs.Prelude.{◌≡◌, ◌≢◌, ℕ, ◌+◌, ◌-◌, ◌^◌, ◌≤◌, List, Option, Contains}
use Rattle.tb_holdings.specs.declared.account.Account.{Account}
use Rattle.tb_holdings.specs.declared.mark.KeptMark.{KeptMark}
use Rattle.tb_holdings.specs.Holdings.{AreInOrder, HoldSomething, held_in, total_in}
use Rattle.tb_holdings.specs.Marks.{MarksAreInOrder, mark_in, pledged_in, open_marks_in}

-- the accounts, the marks on them, the redeemed securities with the accounts that were paid, and how many more
-- accounts, marks and redemptions there is room for
pub record Book : Type 0 where
  pub accounts : List Account
  pub marks : List KeptMark
  pub redeemed : List ℕ
  pub paid : List Account
  pub spare_accounts : ℕ
  pub spare_marks : ℕ
  pub spare_redeems : ℕ

-- what the holder holds of the security: pledged par stays in it
abbrev pub held_of : ℕ → ℕ → Book → ℕ
held_of holder security book = held_in holder security book.accounts

-- what is pledged of the holder's par of the security
abbrev pub pledged_of : ℕ → ℕ → Book → ℕ
pledged_of holder security book = pledged_in holder security book.marks

-- what the holder can transfer or pledge
abbrev pub free_of : ℕ → ℕ → Book → ℕ
free_of holder security book = held_of holder security book - pledged_of holder security book

-- what the holder was paid when the security was redeemed
abbrev pub paid_of : ℕ → ℕ → Book → ℕ
paid_of holder security book = held_in holder security book.paid

-- what all holders together hold of the security
abbrev pub total_of : ℕ → Book → ℕ
total_of security book = total_in security book.accounts

-- the mark of this holder and number, where there is one
abbrev pub mark_of : ℕ → ℕ → Book → Option KeptMark
mark_of holder number book = mark_in holder number book.marks

-- how many of the holder's marks have something left
abbrev pub open_marks_of : ℕ → Book → ℕ
open_marks_of holder book = open_marks_in holder book.marks

-- the security was redeemed
abbrev pub IsRedeemed : ℕ → Book → Type 0
IsRedeemed security book = Contains book.redeemed security

-- the most that is held of one security
abbrev pub most_held : ℕ
most_held = 10 ^ 22

-- the most open marks of one holder
abbrev pub most_open : ℕ
most_open = 1000

-- what holds of these lists in every book of accounts
pub record AreKept
    (accounts : List Account) (marks : List KeptMark) (redeemed : List ℕ) (paid : List Account) : Type 0 where
  pub in_order : AreInOrder accounts
  pub none_empty : HoldSomething accounts
  pub marks_in_order : MarksAreInOrder marks
  -- all that is held of a security is at most 10^22
  pub limited : (security : ℕ) → total_in security accounts ≤ most_held
  -- nobody has pledged more than it holds
  pub covered : (holder security : ℕ) → pledged_in holder security marks ≤ held_in holder security accounts
  -- nobody has more than 1,000 open marks
  pub few_open : (holder : ℕ) → open_marks_in holder marks ≤ most_open
  -- nothing is held of a redeemed security, and so nothing is pledged of it
  pub none_redeemed : (security : ℕ) → Contains redeemed security → total_in security accounts ≡ 0
  -- only redeemed securities were paid
  pub only_redeemed : (security : ℕ) → ¬ (Contains redeemed security) → total_in security paid ≡ 0
  pub paid_limited : (security : ℕ) → total_in security paid ≤ most_held

-- the laws of a book of accounts
abbrev pub IsKept : Book → Type 0
IsKept book = AreKept book.accounts book.marks book.redeemed book.paid

-- the accounts, the marks, the redeemed securities and what was paid are as before
pub record SameLists (old new : Book) : Type 0 where
  pub accounts : new.accounts ≡ old.accounts
  pub marks : new.marks ≡ old.marks
  pub redeemed : new.redeemed ≡ old.redeemed
  pub paid : new.paid ≡ old.paid

-- the call changed accounts at most
pub record ChangesAccountsOnly (old new : Book) : Type 0 where
  pub marks : new.marks ≡ old.marks
  pub redeemed : new.redeemed ≡ old.redeemed
  pub paid : new.paid ≡ old.paid

-- the call changed marks at most
pub record ChangesMarksOnly (old new : Book) : Type 0 where
  pub accounts : new.accounts ≡ old.accounts
  pub redeemed : new.redeemed ≡ old.redeemed
  pub paid : new.paid ≡ old.paid

-- the figures of the other securities are as before
pub record KeepsOthers (security : ℕ) (old new : Book) : Type 0 where
  pub holdings : (holder other : ℕ) → other ≢ security → held_of holder other new ≡ held_of holder other old
  pub pledges : (holder other : ℕ) → other ≢ security → pledged_of holder other new ≡ pledged_of holder other old
  pub payments : (holder other : ℕ) → other ≢ security → paid_of holder other new ≡ paid_of holder other old
  pub totals : (other : ℕ) → other ≢ security → total_of other new ≡ total_of other old

-- the call took the room of at most so many accounts, marks and redemptions
pub record TakesRoom (accounts marks redeems : ℕ) (old new : Book) : Type 0 where
  pub spare_accounts : old.spare_accounts ≤ new.spare_accounts + accounts
  pub spare_marks : old.spare_marks ≤ new.spare_marks + marks
  pub spare_redeems : old.spare_redeems ≤ new.spare_redeems + redeems
