-- What contracts see of a gate.
use Rattle.std.specs.Prelude.{◌≡◌, ℕ, ◌+◌, ◌<◌, ◌≤◌, length, List, [], ◌∷◌, ◌++◌, Option, Some, None, IfSome, option_to_list}
use Rattle.std.proofs.Common.{arith}
use Rattle.std.specs.Option.{option_map}
use Rattle.tb_link.specs.Counts.{Rose, NeverFalls}

-- a gate gives at most so many links
abbrev pub most_links : ℕ
most_links = 1000000

-- of which some may still be to come
pub fewer_given : (given left : ℕ) → given + left ≤ most_links → given ≤ most_links
fewer_given given left few = omega (arith, few)

-- the links that the gate will still give and those handed back, where it tells them, how many it gave, and its count
-- of faults
pub record GateState (K : Type 0) : Type 0 where
  pub left : Option (List K)
  pub back : Option (List K)
  pub given : ℕ
  pub faults : ℕ

module _ {K : Type 0} where
  -- these links before those left, where they are told
  abbrev pub before_links : List K → Option (List K) → Option (List K)
  before_links links left = option_map (λ rest. links ++ rest) left

  -- and behind those handed back
  abbrev pub after_links : Option (List K) → List K → Option (List K)
  after_links back links = option_map (λ front. front ++ links) back

  -- none is given exactly where none is left
  abbrev pub IsGiven : GateState K → Option K → Type 0
  IsGiven old None = IfSome old.left (λ left. left ≡ [])
  IsGiven old (Some link) = Unit {0}

  -- no more links were handed back than given, where they are told
  abbrev pub HandsBackFewer : GateState K → Type 0
  HandsBackFewer gate = IfSome gate.back (λ back. length back ≤ gate.given)

  -- fewer links were handed back than given
  abbrev pub MayTakeBack : GateState K → Type 0
  MayTakeBack gate = IfSome gate.back (λ back. length back < gate.given)

  -- so a link that was given may be handed back
  abbrev pub MayReturn : GateState K → Option K → Type 0
  MayReturn new None = Unit {0}
  MayReturn new (Some link) = MayTakeBack new

  -- the gate gives its next link, or none, and no fault is counted
  pub record NextLink (old new : GateState K) (link : Option K) : Type 0 where
    pub left : old.left ≡ before_links (option_to_list link) new.left
    pub back : new.back ≡ old.back
    pub given : new.given ≡ old.given + length (option_to_list link)
    pub most : new.given ≤ most_links
    pub at_end : IsGiven old link
    pub returns : MayReturn new link
    pub no_fault : new.faults ≡ old.faults

  -- a call that failed gave nothing and changed no list, and the count has risen
  pub record FailsToOpen (old new : GateState K) : Type 0 where
    pub left : new.left ≡ old.left
    pub back : new.back ≡ old.back
    pub given : new.given ≡ old.given
    pub rose : Rose old.faults new.faults
    pub count : NeverFalls old.faults new.faults

  -- the link stands behind those handed back
  pub record TakesBack (old new : GateState K) (link : K) : Type 0 where
    pub left : new.left ≡ old.left
    pub back : new.back ≡ after_links old.back (link ∷ [])
    pub given : new.given ≡ old.given
    pub no_fault : new.faults ≡ old.faults
