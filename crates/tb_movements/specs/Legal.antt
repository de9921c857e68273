-- Legal lists of movements, each of which passes on those before it, and the law of conservation.
use Rattle.std.specs.Prelude.{◌≡◌, ◌≢◌, ℕ, ◌<◌, ◌≤◌, true, false, List, None, IsSomeAnd, length, take, slice_index_or, All, AllPairs, Contains, sum_by}
use Rattle.tb_movements.specs.Movements.{Movement, Settled, Transferred, Pledged, Released, Redeemed}
use Rattle.tb_movements.specs.Holdings.{is_redeemed, held, outstanding, issued, paid}
use Rattle.tb_movements.specs.Marks.{mark_of, left_of, pledged, free}

-- the movement may stand behind those before it: its security isn't redeemed, a transfer goes to another and moves
-- what is free, a pledge is of what is free and under a new number, and the pledgee releases what is left
abbrev pub Passes : List Movement → Movement → Type 0
Passes before (Settled security credits) = is_redeemed security before ≡ false
Passes before (Transferred from to security par) =
    (is_redeemed security before ≡ false) × (from ≢ to) × (par ≤ free from security before)
Passes before (Pledged holder number pledgee security par) =
    (is_redeemed security before ≡ false) × (mark_of holder number before ≡ None) × (par ≤ free holder security before)
Passes before (Released holder number caller par) =
    IsSomeAnd (mark_of holder number before) (λ mark. (mark.pledgee ≡ caller) × (par ≤ left_of before mark))
Passes before (Redeemed security) = is_redeemed security before ≡ false

-- each movement passes on those before it
abbrev pub IsLegal : List Movement → Type 0
IsLegal history =
    (place : ℕ) (d : Movement) → place < length history → Passes (take place history) (slice_index_or history place d)

-- those whom the movement brings something, and from whom it takes something, are among the participants
abbrev pub Reaches : List ℕ → Movement → Type 0
Reaches participants (Settled security credits) = All (λ credit. Contains participants credit.holder) credits
Reaches participants (Transferred from to security par) = Contains participants from × Contains participants to
Reaches participants (Pledged _ _ _ _ _) = Unit {0}
Reaches participants (Released _ _ _ _) = Unit {0}
Reaches participants (Redeemed _) = Unit {0}

-- the participants, each once, and among them all whom the history reaches
pub record AreParticipants (participants : List ℕ) (history : List Movement) : Type 0 where
  pub once : AllPairs (λ one other. one ≢ other) participants
  pub all : All (Reaches participants) history

-- what all of them hold is what is issued and not redeemed; after the redemption they were paid all that was issued;
-- and nobody has pledged more than it holds
pub record IsConserved (participants : List ℕ) (history : List Movement) : Type 0 where
  pub holdings : (security : ℕ)
      → sum_by (λ holder. held holder security history) participants ≡ outstanding security history
  pub payments : (security : ℕ) → is_redeemed security history ≡ true
      → sum_by (λ holder. paid holder security history) participants ≡ issued security history
  pub covered : (holder security : ℕ) → pledged holder security history ≤ held holder security history

-- par is conserved over every legal list of movements
abbrev pub Conservation : Type 0
Conservation =
    (participants : List ℕ) (history : List Movement)
    → IsLegal history → AreParticipants participants history → IsConserved participants history
