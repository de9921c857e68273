-- What moves par: a list of movements, oldest first. A history of messages means such a list (Translated.antt).
use Rattle.std.specs.Prelude.{ℕ, Bool, false, ◌&&◌, ◌==◌, List, filter, sum_by, if◌then◌else◌}

-- par that a settlement gives to a participant
pub record Credit : Type 0 where
  pub holder : ℕ
  pub par : ℕ

pub data Movement : Type 0 where
  -- an auction of the security was settled: each participant is credited what its bidders were awarded, in as many
  -- credits as they have awards
  Settled : (security : ℕ) (credits : List Credit) → Movement
  -- par of the security went from one participant to another
  Transferred : (from to security par : ℕ) → Movement
  -- the holder pledged par of the security to the pledgee, under a number of its own
  Pledged : (holder number pledgee security par : ℕ) → Movement
  -- the caller released par of the holder's pledge of this number
  Released : (holder number caller par : ℕ) → Movement
  -- the security was redeemed: every holder was paid what it held
  Redeemed : (security : ℕ) → Movement

-- what the credits give to one participant
abbrev pub credited_to : ℕ → List Credit → ℕ
credited_to holder credits = sum_by (λ credit. credit.par) (filter (λ credit. holder == credit.holder) credits)

-- what they give to all together
abbrev pub credited_in_all : List Credit → ℕ
credited_in_all credits = sum_by (λ credit. credit.par) credits

-- what the movement brings the holder of the security
abbrev pub brought : ℕ → ℕ → Movement → ℕ
brought holder security (Settled of credits) = if security == of then credited_to holder credits else 0
brought holder security (Transferred from to of par) = if holder == to && security == of then par else 0
brought holder security (Pledged _ _ _ _ _) = 0
brought holder security (Released _ _ _ _) = 0
brought holder security (Redeemed _) = 0

-- what it takes from the holder
abbrev pub taken : ℕ → ℕ → Movement → ℕ
taken holder security (Settled _ _) = 0
taken holder security (Transferred from to of par) = if holder == from && security == of then par else 0
taken holder security (Pledged _ _ _ _ _) = 0
taken holder security (Released _ _ _ _) = 0
taken holder security (Redeemed _) = 0

-- what it issues of the security
abbrev pub issues : ℕ → Movement → ℕ
issues security (Settled of credits) = if security == of then credited_in_all credits else 0
issues security (Transferred _ _ _ _) = 0
issues security (Pledged _ _ _ _ _) = 0
issues security (Released _ _ _ _) = 0
issues security (Redeemed _) = 0

-- it redeems the security
abbrev pub redeems : ℕ → Movement → Bool
redeems security (Settled _ _) = false
redeems security (Transferred _ _ _ _) = false
redeems security (Pledged _ _ _ _ _) = false
redeems security (Released _ _ _ _) = false
redeems security (Redeemed of) = security == of
