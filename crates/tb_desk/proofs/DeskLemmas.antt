-- What holds of every desk holds after a turn.
use Rattle.std.proofs.Common.{◌≡◌, ◌⊎◌, inl, inr, ℕ, ◌+◌, ◌≤◌, List, [], ◌∷◌, ◌++◌, length, Option, Some, None, refl, sym, subst, arith}
use Rattle.std.specs.Prelude.{IfSome}
use Rattle.tb_link.specs.Counts.{Rose, NeverFalls, last_count}
use Rattle.tb_disk.specs.Past.{Past, contents_of, MayLeave, Leaves}
use Rattle.tb_disk.specs.Disks.{DiskState}
use Rattle.tb_message.specs.declared.message.Entry.{Entry}
use Rattle.tb_message.specs.Spelling.{spellings}
use Rattle.tb_journal.proofs.Calls.{held_stays}
use Rattle.tb_journal.specs.declared.form.Form.TheVariants.{Second}
use Rattle.tb_journal.proofs.Gates.{doubtful_stands, IsFramedIn-stands}
use Rattle.tb_desk.specs.Stands.{joined, payloads_of, StandsForEither, HoldsAt, Stands, LeavesEither, CrashesLeave}
use Rattle.tb_desk.specs.Turn.{Held, Asked, Replies, IsTurn, IsOneOf}
use Rattle.tb_desk.specs.Desks.{IsDesk, IsBeginningOr, CrashesSince, CountsFault, PlacedGroup, doubted_by}
use Rattle.tb_journal.proofs.ToldLemmas.{known_of}
use Rattle.tb_journal.proofs.OpeningLemmas.{told_kept}
use Rattle.tb_desk.proofs.StepLemmas.{either_stands, crash-none}
use Rattle.tb_desk.proofs.CrashLemmas.{CrashesSince-opened, CrashesSince-turn}
use Rattle.tb_desk.proofs.TurnLemmas.{Grows-turn, length-grows}

-- each crash now leaves the history, with what is in doubt or without
leaves_at : (groups : List (List Entry)) (history doubt : List Entry) (gate : ℕ) (past : Past)
    → joined groups ≡ history → HoldsAt (payloads_of groups) doubt gate past → (file : List ℕ) → MayLeave past file
    → StandsForEither history doubt file
leaves_at groups history [] gate past whole holds file may =
    inl (record { groups = groups; whole = whole; stands = held_stays (payloads_of groups) gate past holds file may })
leaves_at groups history (entry ∷ entries) gate past whole doubts file may =
    either_stands groups history (entry ∷ entries) file whole
    (doubtful_stands (payloads_of groups) (spellings (entry ∷ entries)) file (doubts.images file may))

-- and so do the contents
contents_at : (groups : List (List Entry)) (history doubt : List Entry) (gate : ℕ) (past : Past)
    → joined groups ≡ history → HoldsAt (payloads_of groups) doubt gate past
    → StandsForEither history doubt (contents_of past)
contents_at groups history [] gate past whole holds =
    inl (record {
      groups = groups;
      whole = whole;
      stands = IsFramedIn-stands Second (payloads_of groups) (contents_of past)
          holds.file;
    })
contents_at groups history (entry ∷ entries) gate past whole doubts =
    either_stands groups history (entry ∷ entries) (contents_of past) whole
    (doubtful_stands (payloads_of groups) (spellings (entry ∷ entries)) (contents_of past) doubts.file)

-- what a crash now leaves of a desk
pub Stands-leaves : (disk : DiskState) (gate : ℕ) (next : Option ℕ) (history doubt : List Entry)
    → Stands disk gate next history doubt → LeavesEither disk history doubt
Stands-leaves disk gate next history doubt stands =
    known_of (HoldsAt (payloads_of stands.groups) doubt gate)
    (λ past. (file : List ℕ) → MayLeave past file → StandsForEither history doubt file) disk.past
    (λ past holds. leaves_at stands.groups history doubt gate past stands.whole holds) stands.told

-- what its disk holds
pub Stands-contents : (disk : DiskState) (gate : ℕ) (next : Option ℕ) (history doubt : List Entry)
    → Stands disk gate next history doubt → IfSome disk.past (λ past. StandsForEither history doubt (contents_of past))
Stands-contents disk gate next history doubt stands =
    known_of (HoldsAt (payloads_of stands.groups) doubt gate)
    (λ past. StandsForEither history doubt (contents_of past)) disk.past
    (λ past holds. contents_at stands.groups history doubt gate past stands.whole holds) stands.told

-- the count of faults
abbrev pub IsCounted : ℕ → ℕ → ℕ → Type 0
IsCounted opened faults disk = (opened + faults ≤ disk) ⊎ (disk ≡ last_count)

-- it counts what the disk's count rose
pub counted_turn : (replies : Replies) (opened old new faults now : ℕ) → NeverFalls old new
    → (replies ≡ None → Rose old new)
    → CountsFault replies faults now → IsCounted opened faults old → IsCounted opened now new
counted_turn (Some given) opened old new faults now falls rose counts (inl within) =
    inl (omega (arith, falls.never_falls, within, counts))
counted_turn (Some given) opened old new faults now falls rose counts (inr last) =
    inr (omega (arith, falls.never_falls, last, falls.bounded (omega (arith, last))))
counted_turn None opened old new faults now falls rose counts (inl within) = elim (rose refl) [
  | inl more ↦ inl (omega (arith, within, counts, more))
  | inr end_ ↦ inr end_
]
counted_turn None opened old new faults now falls rose counts (inr last) =
    inr (omega (arith, falls.never_falls, last, falls.bounded (omega (arith, last))))

-- and stands still at its last value
pub limited_turn : (replies : Replies) (faults now : ℕ) → CountsFault replies faults now → faults ≤ last_count
    → now ≤ last_count
limited_turn (Some given) faults now counts limited = omega arith
limited_turn None faults now counts limited = omega arith

-- all that holds of a desk
pub IsDesk-turn : (opened old new : DiskState) (gate here : ℕ) (next behind : Option ℕ) (asked : Asked)
    (held after : Held)
    (replies : Replies) (at : List Entry) (recovered faults now : ℕ) (doubted noted : List PlacedGroup)
    → IsDesk old opened gate next held.history held.doubt recovered faults doubted
    → Stands new here behind after.history after.doubt
    → length asked.messages ≤ 64
    → IsTurn gate old asked held after replies at
    → CrashesLeave (IsOneOf held after) old new
    → NeverFalls old.faults new.faults
    → (replies ≡ None → Rose old.faults new.faults)
    → CountsFault replies faults now
    → noted ≡ doubted ++ doubted_by replies after
    → IsDesk new opened here behind after.history after.doubt recovered now noted
IsDesk-turn opened old new gate here next behind asked held after replies at recovered faults now doubted noted desk
    stands few turn crash falls rose counts notes =
    let now_limited = limited_turn replies faults now counts desk.limited in
    record {
      stands = stands;
      recovers = omega (
        arith,
        desk.recovers,
        length-grows held.history after.history
            (Grows-turn gate old asked held after replies at turn),
      );
      since = subst (CrashesSince opened new after.history after.doubt recovered now) (sym notes)
          (CrashesSince-turn gate asked held after replies at recovered faults now opened old new doubted (record {
            few = few;
            turn = turn;
            accepted = stands.accepted;
            recovers = desk.recovers;
            counts = counts;
            limited = desk.limited;
            now_limited = now_limited;
          }) crash desk.since);
      counted = counted_turn replies opened.faults old.faults new.faults faults now falls rose counts desk.counted;
      limited = now_limited;
    }

-- a desk that was just opened
pub IsDesk-opened : (disk : DiskState) (gate : ℕ) (next : Option ℕ) (history : List Entry) (recovered : ℕ)
    → Stands disk gate next history [] → recovered ≡ length history
    → IsDesk disk disk gate next history [] recovered 0 []
IsDesk-opened disk gate next history recovered stands all = record {
  stands = stands;
  recovers = omega (arith, all);
  since = CrashesSince-opened disk history recovered all (crash-none disk gate next history [] stands);
  counted = inl (omega arith);
  limited = omega arith;
}

-- what was read of a disk leaves the count of faults in its bounds
counted_read : (opened old new faults : ℕ) → NeverFalls old new → IsCounted opened faults old
    → IsCounted opened faults new
counted_read opened old new faults falls (inl within) = inl (omega (arith, falls.never_falls, within))
counted_read opened old new faults falls (inr last) =
    inr (omega (arith, falls.never_falls, last, falls.bounded (omega (arith, last))))

-- what holds of every desk holds once its disk was read
pub IsDesk-read : (opened old new : DiskState) (gate : ℕ) (next : Option ℕ) (history doubt : List Entry)
    (recovered faults : ℕ) (doubted : List PlacedGroup)
    → IsDesk old opened gate next history doubt recovered faults doubted
    → new.past ≡ old.past
    → NeverFalls old.faults new.faults
    → IsDesk new opened gate next history doubt recovered faults doubted
IsDesk-read opened old new gate next history doubt recovered faults doubted desk kept falls = record {
  stands = record {
    groups = desk.stands.groups;
    whole = desk.stands.whole;
    sizes = desk.stands.sizes;
    place = desk.stands.place;
    next_place = desk.stands.next_place;
    legal = desk.stands.legal;
    accepted = desk.stands.accepted;
    told = subst (λ (past : Option Past). IfSome past (HoldsAt (payloads_of desk.stands.groups) doubt gate)) (sym kept)
        desk.stands.told;
  };
  recovers = desk.recovers;
  since = record {
    each = desk.since.each;
    now = desk.since.now;
    few = desk.since.few;
    leaves = told_kept (λ before now. Leaves (IsBeginningOr doubted history recovered) before now) opened old new kept
        desk.since.leaves;
  };
  counted = counted_read opened.faults old.faults new.faults faults falls desk.counted;
  limited = desk.limited;
}
