-- What the closed lock says of all calls.
use Rattle.std.proofs.Common.{◌≡◌, ℕ, zero, suc, ◌+◌, ◌-◌, ◌≤◌, ◌<◌, ◌⊎◌, List, [], ◌∷◌, ◌++◌, length, map, get_or, refl, sym, ap, ◌∙◌, subst, inl, inr, arith, length-append}
use Rattle.std.specs.Prelude.{Bool, All, AllPairs, Any}
use Rattle.std.proofs.lemmas.List.{length-map}
use Rattle.tb_link.specs.Sources.{SourceState}
use Rattle.tb_link.specs.Sinks.{SinkState}
use Rattle.tb_disk.specs.Disks.{DiskState}
use Rattle.tb_gates.specs.Clocks.{ClockState}
use Rattle.tb_gates.specs.Gates.{GateState}
use Rattle.tb_message.specs.declared.message.Entry.{Entry}
use Rattle.tb_message.specs.Spelling.{spelling}
use Rattle.tb_lock.specs.declared.view.Call.{Call}
use Rattle.tb_lock.specs.declared.view.View.{View}
use Rattle.tb_lock.specs.Meanings.{History, IsPrefix}
use Rattle.tb_lock.specs.Calls.{AreApart as AreApartCalls, Stands, IsBetween, IsReadBy, MayAdd, Makes}
use Rattle.tb_lock.specs.Turns.{Closes, HasOnlyOwn}
use Rattle.tb_lock.specs.Views.{newcomer}
use Rattle.tb_lock.proofs.PrefixLemmas.{any-later, any-weaker}
use Rattle.tb_session.specs.declared.called.Outcome.{Outcome}
use Rattle.tb_session.specs.declared.called.Outcome.TheVariants as outcome
use Rattle.tb_session.specs.declared.room.Room.{Room}
use Rattle.tb_session.specs.Codes.{Made, call_of, kind_at, outcome_code, entry_of, spelled_all}
use Rattle.tb_session.specs.CodeLaws.{entry-code, get_or-map}
use Rattle.tb_session.specs.Rooms.{room_means, house_of}
use Rattle.tb_session.specs.Serve.{calls_of_gates, AreApart, MayHaveMade, ServesAll, Turns}
use Rattle.tb_session.proofs.ApartLemmas.{count-apart}
use Rattle.tb_session.proofs.OpeningLemmas.{same-start, operator-house, moments-house}
use Rattle.tb_session.proofs.HouseLemmas.{IsAnswered-house, AreRuns-house}

-- what holds of all elements of a mapped list
pub all-unmapped : {A B : Type 0} (P : B → Type 0) (f : A → B) (xs : List A) → All P (map f xs) → All (λ x. P (f x)) xs
all-unmapped P f xs all = λ k d within.
    subst P (get_or-map f xs k d within) (all k (f d) (omega (arith, length-map xs f)))

-- and of each two
pairs-unmapped : {A B : Type 0} (R : B → B → Type 0) (f : A → B) (xs : List A) → AllPairs R (map f xs)
    → AllPairs (λ x y. R (f x) (f y)) xs
pairs-unmapped {A} {B} R f xs pairs = λ i j d earlier within.
    let length_is = length-map xs f in
    let first : get_or (map f xs) i (f d) ≡ f (get_or xs i d) = get_or-map f xs i d (omega arith) in
    let second : get_or (map f xs) j (f d) ≡ f (get_or xs j d) = get_or-map f xs j d within in
    subst (λ (y : B × B). R y.0 y.1) (λ k. (first k, second k)) (pairs i j (f d) earlier (omega arith))

-- where an element meets it at a place of the mapped list
any-at : {A B : Type 0} (P : B → Type 0) (f : A → B) (xs : List A) (k : ℕ) (y : B) → k < length (map f xs)
    → get_or (map f xs) k y ≡ y → P y → Any (λ x. P (f x)) xs
any-at P f [] k y within is holds = absurd (let bad : ⊥ = omega arith in bad)
any-at P f (x ∷ xs) zero y within is holds = (0, x, omega arith, refl, subst P (sym is) holds)
any-at P f (x ∷ xs) (suc k) y within is holds =
    any-later (λ a. P (f a)) x xs (any-at P f xs k y (omega arith) is holds)

-- and of some
any-unmapped : {A B : Type 0} (P : B → Type 0) (f : A → B) (xs : List A) → Any P (map f xs) → Any (λ x. P (f x)) xs
any-unmapped P f xs some = any-at P f xs some.0 some.1 some.2 some.3 some.4

-- a call that may add an entry was accepted, or met a fault
made-by : (o : Outcome) (entry : List ℕ) → MayAdd (kind_at (outcome_code o)) → entry_of o ≡ entry
    → (e : Entry) × ((o ≡ outcome.Added e) ⊎ (o ≡ outcome.Doubted e)) × (spelling e ≡ entry)
made-by (outcome.Added e) entry may is = (e, inl refl, is)
made-by (outcome.Stood e) entry may is = absurd may
made-by (outcome.Doubted e) entry may is = (e, inr refl, is)
made-by outcome.Told entry may is = absurd may
made-by outcome.Lacked entry may is = absurd may

module _ {D C G K : Type 0} (disk : D → DiskState) (clock : C → ClockState) (gate : G → GateState K)
    (source : K → SourceState) (sink : K → SinkState) (room after : Room D C) (v v' : View) (olds news : List G)
    (served : ℕ) (failed : Bool) (first : v ≡ newcomer (room_means disk clock) room)
    (done : Turns gate source sink v v' olds news served failed) (closes : Closes (room_means disk clock) v' after)
  where
    -- what became of the gates, from the first view on
    abbrev turns : Turns gate source sink (newcomer (room_means disk clock) room) v' olds news served failed
    turns = subst (λ (x : View). Turns gate source sink x v' olds news served failed) first done

    -- the calls of all gates
    abbrev calls : List Made
    calls = calls_of_gates turns.runs

    -- a call that makes an entry under the lock may have made it
    makes_it : (entry : List ℕ) (m : Made) → Makes (room_means disk clock) v'.fixed entry (call_of m)
        → MayHaveMade entry m
    makes_it entry m makes = made-by m.called.outcome entry makes.0 (sym (entry-code m.called) ∙ makes.1)

    -- and so may some call, where the lock has one
    any_made : (entry : List ℕ) → Any (Makes (room_means disk clock) v'.fixed entry) v'.mine
        → Any (MayHaveMade entry) calls
    any_made entry some =
        any-weaker (λ m. Makes (room_means disk clock) v'.fixed entry (call_of m)) (MayHaveMade entry) (makes_it entry)
        calls
        (any-unmapped (Makes (room_means disk clock) v'.fixed entry) call_of calls
        (subst (λ (l : List Call). Any (Makes (room_means disk clock) v'.fixed entry) l) turns.mine some))

    -- each call stands in the last history
    stand : All (λ m. Stands (room_means disk clock) v'.fixed (spelled_all after.desk.host.history) (call_of m)) calls
    stand =
        all-unmapped (Stands (room_means disk clock) v'.fixed (spelled_all after.desk.host.history)) call_of calls
        (subst (λ (l : List Call).
        All (Stands (room_means disk clock) v'.fixed (spelled_all after.desk.host.history)) l)
        turns.mine closes.stand)

    -- its counts of faults lie between the opening's and the last
    counts : All (λ m. IsBetween v'.opening_faults after.desk.faults (call_of m)) calls
    counts =
        all-unmapped (IsBetween v'.opening_faults after.desk.faults) call_of calls
        (subst (λ (l : List Call). All (IsBetween v'.opening_faults after.desk.faults) l) turns.mine closes.counts)

    -- its turn ended at no more readings than the last
    read : All (λ m. IsReadBy (clock after.clock).readings (call_of m)) calls
    read =
        all-unmapped (IsReadBy (clock after.clock).readings) call_of calls
        (subst (λ (l : List Call). All (IsReadBy (clock after.clock).readings) l) turns.mine closes.read)

    -- two calls that the lock keeps apart were accepted on histories of different lengths
    apart : (m n : Made) → AreApartCalls (room_means disk clock) (call_of m) (call_of n) → AreApart m n
    apart m n calls_apart e f first second same =
        calls_apart (ap (λ (o : Outcome). kind_at (outcome_code o)) first)
        (ap (λ (o : Outcome). kind_at (outcome_code o)) second)
        (length-map m.history spelling ∙ (same ∙ sym (length-map n.history spelling)))

    -- no two of the calls were accepted at one place
    once : AllPairs AreApart calls
    once = λ i j d earlier within.
        apart (get_or calls i d) (get_or calls j d)
        (pairs-unmapped (AreApartCalls (room_means disk clock)) call_of calls
        (subst (λ (l : List Call). AllPairs (AreApartCalls (room_means disk clock)) l) turns.mine closes.once)
        i j d earlier within)

    -- all past the opening is of these calls
    only : HasOnlyOwn (room_means disk clock) v' after
    only = closes.whole turns.share

    -- behind the history of an accepted call stands its entry
    one_accepted : (m : Made) (e : Entry) → m.called.outcome ≡ outcome.Added e
        → Stands (room_means disk clock) v'.fixed (spelled_all after.desk.host.history) (call_of m)
        → IsPrefix (spelled_all m.history ++ spelling e ∷ [])
        (spelled_all after.desk.host.history)
    one_accepted m e is stands =
        subst (λ (x : List ℕ). IsPrefix (spelled_all m.history ++ x ∷ []) (spelled_all after.desk.host.history))
        (entry-code m.called ∙ ap (λ (o : Outcome). entry_of o) is)
        (stands.entry (ap (λ (o : Outcome). kind_at (outcome_code o)) is))

    -- the history is the room's, and these entries behind it
    grown : spelled_all after.desk.host.history ≡ spelled_all room.desk.host.history ++ only.later
    grown = only.history ∙ ap (λ (h : History). h ++ only.later) turns.same.opening

    -- so it is longer by their number
    longer : length after.desk.host.history ≡ length room.desk.host.history + length only.later
    longer =
        omega (
          arith,
          ap (λ (h : History). length h) grown,
          length-append (spelled_all room.desk.host.history) only.later,
          length-map room.desk.host.history spelling,
          length-map after.desk.host.history spelling,
        )

    -- the history isn't shorter
    pub not_shorter : length room.desk.host.history ≤ length after.desk.host.history
    not_shorter = omega (arith, longer)

    -- the gates were served over the room
    pub serves_all : (accepted : ℕ) → accepted ≡ length after.desk.host.history - length room.desk.host.history
        → ServesAll disk clock gate source sink room olds after news served accepted failed
    serves_all accepted is = record {
      runs = turns.runs;
      are_runs = AreRuns-house _ (house_of disk clock room) (operator-house disk clock room)
          (moments-house disk clock room) gate source sink olds news turns.runs turns.are_runs;
      history = record {
        later = only.later;
        grown = grown;
        entries = λ k d within. any_made _ (only.entries k d within);
        doubted = λ k d within. any_made _ (only.doubt k d within);
        answered = λ k d within. IsAnswered-house _ (house_of disk clock room) (operator-house disk clock room)
            (moments-house disk clock room) _ _ _ _ _ (turns.answered k d within);
        begins = turns.begin;
        prefixes = λ k d within. (stand k d within).prefix;
        accepted = λ k d within e is. one_accepted (get_or calls k d) e is (stand k d within);
        once = once;
        counts = λ k d within. let one = counts k d within in
            (omega (arith, one.least, turns.same.opening_faults), one.rising, one.most);
      };
      apart = count-apart turns.runs v'.spans closes.apart turns.had;
      read = read;
      served_is = turns.counted;
      accepted_is = omega (arith, is, longer);
      failed_is = turns.failed_is;
      same = same-start disk clock room after (closes.fixed ∙ turns.same.fixed);
    }
