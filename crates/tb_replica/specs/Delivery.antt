-- Delivery: which places of a history are there, once parcels came in any order.
use Rattle.std.specs.Prelude.{◌≡◌, ℕ, ◌+◌, ◌<◌, ◌≤◌, Bool, true, false, ◌&&◌, ◌||◌, ◌==◌, nat_le, List, [], ◌∷◌}

-- All places before the next one are there, and so are some behind it.
pub record Arrived : Type 0 where
  pub next : ℕ
  pub ahead : ℕ → Bool

-- none but those before the next one
abbrev pub arrived_up_to : ℕ → Arrived
arrived_up_to next = record { next = next; ahead = λ (place : ℕ). false }

-- the same places are there
pub record IsSameArrival (one other : Arrived) : Type 0 where
  pub next : other.next ≡ one.next
  pub ahead : (place : ℕ) → other.ahead place ≡ one.ahead place

-- the least place from this one on that isn't among these
pub record IsFirstGap (among : ℕ → Bool) (low gap : ℕ) : Type 0 where
  pub behind : low ≤ gap
  pub is_gap : among gap ≡ false
  pub filled : (place : ℕ) → low ≤ place → place < gap → among place ≡ true

-- The next place is there: the next one is the least behind it that isn't there yet.
pub record ClosesGap (old new : Arrived) : Type 0 where
  pub next : IsFirstGap old.ahead (old.next + 1) new.next
  pub ahead : (place : ℕ) → new.ahead place ≡ (old.ahead place && nat_le (new.next + 1) place)

-- a place behind the next one is there
pub record GoesAhead (place : ℕ) (old new : Arrived) : Type 0 where
  pub next : new.next ≡ old.next
  pub ahead : (other : ℕ) → new.ahead other ≡ (old.ahead other || (other == place))

-- What the parcel of a place does. A place before the next one, or too far behind it, changes nothing.
pub record Delivers (place : ℕ) (old new : Arrived) : Type 0 where
  pub before : place < old.next → IsSameArrival old new
  pub at : place ≡ old.next → ClosesGap old new
  pub behind : old.next < place → place < old.next + 1024 → GoesAhead place old new
  pub beyond : old.next + 1024 ≤ place → IsSameArrival old new

-- what the parcels of these places do, one after another
abbrev pub DeliverAll : List ℕ → Arrived → Arrived → Type 0
DeliverAll [] old new = IsSameArrival old new
DeliverAll (place ∷ places) old new =
    (between : Arrived) × Delivers place old between × DeliverAll places between new
