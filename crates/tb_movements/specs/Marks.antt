-- Marks: what of each pledge is left.
use Rattle.std.specs.Prelude.{ℕ, ◌-◌, Bool, ◌&&◌, ◌==◌, nat_lt, List, Option, Some, None, filter, filter_map, find, sum_by, count_by, if◌then◌else◌}
use Rattle.tb_movements.specs.Movements.{Movement, Settled, Transferred, Pledged, Released, Redeemed}
use Rattle.tb_movements.specs.Holdings.{is_redeemed, held}

-- a pledge, known by its holder and number
pub record Mark : Type 0 where
  pub holder : ℕ
  pub number : ℕ
  pub pledgee : ℕ
  pub security : ℕ
  -- what was pledged at first
  pub par : ℕ

-- the mark that the movement makes
abbrev pub mark_made : Movement → Option Mark
mark_made (Settled _ _) = None
mark_made (Transferred _ _ _ _) = None
mark_made (Pledged holder number pledgee security par) =
    Some (record { holder = holder; number = number; pledgee = pledgee; security = security; par = par })
mark_made (Released _ _ _ _) = None
mark_made (Redeemed _) = None

-- the marks, oldest first
abbrev pub marks : List Movement → List Mark
marks history = filter_map mark_made history

-- what the movement releases of the mark of this holder and number
abbrev pub releases : ℕ → ℕ → Movement → ℕ
releases holder number (Settled _ _) = 0
releases holder number (Transferred _ _ _ _) = 0
releases holder number (Pledged _ _ _ _ _) = 0
releases holder number (Released of under caller par) = if holder == of && number == under then par else 0
releases holder number (Redeemed _) = 0

-- all that was released of it
abbrev pub released_of : ℕ → ℕ → List Movement → ℕ
released_of holder number history = sum_by (releases holder number) history

-- what is left of the mark
abbrev pub left_of : List Movement → Mark → ℕ
left_of history mark =
    if is_redeemed mark.security history then 0 else mark.par - released_of mark.holder mark.number history

-- the mark is this holder's, under this number
abbrev pub is_named : ℕ → ℕ → Mark → Bool
is_named holder number mark = mark.holder == holder && mark.number == number

-- the mark is this holder's, of this security
abbrev pub is_on : ℕ → ℕ → Mark → Bool
is_on holder security mark = mark.holder == holder && mark.security == security

-- the mark of this holder and number, where there is one
abbrev pub mark_of : ℕ → ℕ → List Movement → Option Mark
mark_of holder number history = find (is_named holder number) (marks history)

-- what is pledged of the holder's par of the security
abbrev pub pledged : ℕ → ℕ → List Movement → ℕ
pledged holder security history = sum_by (left_of history) (filter (is_on holder security) (marks history))

-- what the holder can transfer or pledge
abbrev pub free : ℕ → ℕ → List Movement → ℕ
free holder security history = held holder security history - pledged holder security history

-- how many of the holder's marks have something left
abbrev pub open_marks : ℕ → List Movement → ℕ
open_marks holder history = count_by (λ mark. mark.holder == holder && nat_lt 0 (left_of history mark)) (marks history)
