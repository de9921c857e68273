-- What a crash leaves while entries are added one after another, and which of them is in doubt after a fault.
use Rattle.std.proofs.Common.{◌≡◌, inl, inr, ℕ, ◌+◌, ◌-◌, ◌≤◌, List, [], ◌∷◌, ◌++◌, length, take, get_or, refl, ap, sym, ◌∙◌, subst, arith, append-nil, append_assoc, length-append}
use Rattle.std.specs.Prelude.{Option, Some, None, Ok, Err, Result}
use Rattle.std.proofs.lemmas.List.{take-append-le}
use Rattle.tb_disk.specs.Past.{Leaves, MayLeave}
use Rattle.tb_disk.specs.Disks.{DiskState}
use Rattle.tb_disk.proofs.Moments.{Leaves-start}
use Rattle.tb_journal.proofs.ToldLemmas.{told_still}
use Rattle.tb_message.specs.declared.message.Entry.{Entry}
use Rattle.tb_parcel.specs.declared.parcel.Parcel.{Parcel}
use Rattle.tb_desk.specs.Stands.{CrashesLeave, LeavesEither, StandsForEither, StandsForHistory}
use Rattle.tb_desk.specs.Turn.{Asked, Held, IsOneOf, Replies, Turns}
use Rattle.tb_desk.proofs.CrashLemmas.{IsBeginning-whole}
use Rattle.tb_desk.proofs.TurnLemmas.{CrashesLeave-both, CrashesLeave-weaker, Grows, Grows-not, Grows-turn, length-grows}
use Rattle.tb_replica.specs.declared.taken.TakeFault.{TakeFault}
use Rattle.tb_replica.specs.declared.taken.TakeFault.TheVariants as fault
use Rattle.tb_replica.specs.Adding.{IsAdded}
use Rattle.tb_replica.specs.Crashes.{IsInDoubt, IsLeft, WaitsBehind, WaitsFor}
use Rattle.tb_replica.specs.Following.{Following, Outcome, Runs, Gap, LetGo, Forks, Breaks, Goes}
use Rattle.tb_replica.specs.Window.{first, shifted}
use Rattle.tb_replica.proofs.WindowLemmas.{get_or-shifted}

-- ---- what a crash leaves

-- the history grows by an entry that was added, and stays where none was
pub Grows-added : (history after : List Entry) (entry : Entry) (result : Result (Unit {0}) TakeFault)
    → IsAdded history entry after result
    → Grows history after
Grows-added history after entry (Ok done) added = (entry ∷ [], added.1)
Grows-added history after entry (Err (fault.Forked place)) added = Grows-not history after added.2
Grows-added history after entry (Err fault.DiskFault) added = Grows-not history after added
Grows-added history after entry (Err fault.OutOfMemory) added = Grows-not history after added

-- one answer tells one fault
pub same_fault : {A : Type 0} (one other : TakeFault)
    → ◌≡◌ {A = Result A TakeFault} (Err one) (Err other)
    → one ≡ other
same_fault one other same = cc (same)

-- it stays where the disk failed
pub same_after : (history after : List Entry) (entry : Entry) (result : Result (Unit {0}) TakeFault)
    → result ≡ Err fault.DiskFault
    → IsAdded history entry after result
    → after ≡ history
same_after history after entry result failed added =
    subst (λ (r : Result (Unit {0}) TakeFault). IsAdded history entry after r) failed added

-- it grows by what a run adds
pub Grows-runs : (new : Following) (outcome : Outcome) (history : List Entry) (ahead : List (Option Entry)) (added : ℕ)
    → Runs new outcome history ahead added
    → Grows history new.history
Grows-runs new outcome _ _ _ (Gap history ahead added none told left) =
    Grows-not history new.history (ap (λ (f : Following). f.history) left)
Grows-runs new outcome _ _ _ (LetGo history ahead added entry kept among told left) =
    Grows-not history new.history (ap (λ (f : Following). f.history) left)
Grows-runs new outcome _ _ _ (Forks history ahead added entry kept not_among not_follows told same) =
    Grows-not history new.history same
Grows-runs new outcome _ _ _ (Breaks history ahead added entry kept not_among broken same) =
    Grows-not history new.history same
Grows-runs new outcome _ _ _ (Goes history ahead added entry kept follows more) =
    let later : Grows (history ++ entry ∷ []) new.history =
    Grows-runs new outcome (history ++ entry ∷ []) (shifted ahead) (added + 1) more in
    (entry ∷ later.0, later.1 ∙ append_assoc history (entry ∷ []) later.0)

-- a file that stands for what a history is, or for that with what is in doubt behind it
whole : (old : List Entry) (new : Held) (file : List ℕ)
    → length old ≤ length new.history
    → StandsForEither new.history new.doubt file
    → IsLeft old new file
whole old new file longer (inl stands) =
    inl (IsBeginning-whole new.history new.history (length old) file (Grows-not new.history new.history refl) longer
    stands)
whole old new file longer (inr stands) = inr stands

-- what is left before the history grew on, where nothing was in doubt
grown : (old : List Entry) (mid new : Held) (file : List ℕ)
    → mid.doubt ≡ []
    → length old ≤ length mid.history
    → Grows mid.history new.history
    → IsLeft old mid file
    → IsLeft old new file
grown old mid new file sure longer grows (inl begins) = inl (record {
  kept = begins.kept;
  enough = begins.enough;
  within = omega (arith, begins.within, length-grows mid.history new.history grows);
  stands = subst (λ (entries : List Entry). StandsForHistory entries file)
      (sym (ap (λ (entries : List Entry). take begins.kept entries) grows.1
      ∙ take-append-le begins.kept mid.history grows.0 begins.within)) begins.stands;
})
grown old mid new file sure longer grows (inr stands) =
    inl (IsBeginning-whole mid.history new.history (length old) file grows longer
    (subst (λ (entries : List Entry). StandsForHistory entries file)
    (ap (λ (doubt : List Entry). mid.history ++ doubt) sure ∙ append-nil mid.history) stands))

-- what is left behind the history from which the others went on
further : (old : List Entry) (mid new : Held) (file : List ℕ)
    → length old ≤ length mid.history
    → IsLeft mid.history new file
    → IsLeft old new file
further old mid new file longer (inl begins) = inl (record {
  kept = begins.kept;
  enough = omega (arith, begins.enough);
  within = begins.within;
  stands = begins.stands;
})
further old mid new file longer (inr stands) = inr stands

-- nothing was done
pub Left-same : (old : List Entry) (new : Held) (before after : DiskState)
    → new.history ≡ old
    → after ≡ before
    → LeavesEither after new.history new.doubt
    → CrashesLeave (IsLeft old new) before after
Left-same old new before after same still leaves =
    subst (λ (disk : DiskState). CrashesLeave (IsLeft old new) disk after) still
    (told_still (λ was now. Leaves (IsLeft old new) was now)
    (λ past. (file : List ℕ) → MayLeave past file → StandsForEither new.history new.doubt file) after
    (λ past each. Leaves-start (IsLeft old new) past
    (λ file left. whole old new file (omega (arith, ap (λ (h : List Entry). length h) same)) (each file left)))
    leaves)

-- a turn was made where nothing was in doubt
pub Left-turn : (first : List Entry) (gate : ℕ) (asked : Asked) (old new : Held) (replies : Replies)
    (before mid after : DiskState)
    → Turns gate mid asked old new replies
    → old.history ≡ first
    → old.doubt ≡ []
    → mid ≡ before
    → CrashesLeave (IsOneOf old new) mid after
    → CrashesLeave (IsLeft first new) before after
Left-turn first gate asked old new replies before mid after turns is sure still leaves =
    subst (λ (disk : DiskState). CrashesLeave (IsLeft first new) disk after) still
    (subst (λ (entries : List Entry). CrashesLeave (IsLeft entries new) mid after) is
    (CrashesLeave-weaker (IsOneOf old new) (IsLeft old.history new) mid after left leaves))
  where
    grows : Grows old.history new.history
    grows = Grows-turn gate mid asked old new replies turns.at turns.turn

    left : (file : List ℕ) → IsOneOf old new file → IsLeft old.history new file
    left file (inl early) =
        grown old.history old new file sure (omega arith) grows (whole old.history old file (omega arith) early)
    left file (inr late) =
        whole old.history new file (omega (arith, length-grows old.history new.history grows)) late

-- one after another
pub Left-both : (old : List Entry) (mid new : Held) (before between after : DiskState)
    → mid.doubt ≡ []
    → length old ≤ length mid.history
    → Grows mid.history new.history
    → CrashesLeave (IsLeft old mid) before between
    → CrashesLeave (IsLeft mid.history new) between after
    → CrashesLeave (IsLeft old new) before after
Left-both old mid new before between after sure longer grows one other =
    CrashesLeave-both (IsLeft old new) before between after
    (CrashesLeave-weaker (IsLeft old mid) (IsLeft old new) before between
    (λ file left. grown old mid new file sure longer grows left) one)
    (CrashesLeave-weaker (IsLeft mid.history new) (IsLeft old new) between after
    (λ file left. further old mid new file longer left) other)

-- ---- what is in doubt

-- the entry that is in doubt was the first that was kept
pub IsInDoubt-first : (history : List Entry) (ahead : List (Option Entry)) (entry : Entry) (new : Held)
    → IsInDoubt (λ place waiting. waiting ≡ entry) new
    → new.history ≡ history
    → first ahead ≡ Some entry
    → IsInDoubt (WaitsBehind history ahead) new
IsInDoubt-first history ahead entry new doubt same kept = record {
  entry = doubt.entry;
  alone = doubt.alone;
  follows = doubt.follows;
  waited = (
    omega (arith, at),
    ap (λ (n : ℕ). get_or ahead n None) here ∙ kept ∙ ap (λ (e : Entry). Some e) (sym doubt.waited),
  );
}
  where
    at : length new.history ≡ length history
    at = ap (λ (entries : List Entry). length entries) same

    here : length new.history - length history ≡ 0
    here = omega (arith, at)

-- what waits behind the next place waits behind this one
waits-goes : (history after : List Entry) (ahead left : List (Option Entry)) (entry waiting : Entry) (place : ℕ)
    → after ≡ history ++ entry ∷ []
    → left ≡ shifted ahead
    → WaitsBehind after left place waiting
    → WaitsBehind history ahead place waiting
waits-goes history after ahead left entry waiting place is left_is waits = (
  omega (arith, one, waits.0),
  ap (λ (n : ℕ). get_or ahead n None) back
      ∙ sym (get_or-shifted ahead (place - length after))
      ∙ ap (λ (places : List (Option Entry)). get_or places (place - length after) None) (sym left_is)
      ∙ waits.1,
)
  where
    one : length after ≡ length history + 1
    one = ap (λ (entries : List Entry). length entries) is ∙ length-append history (entry ∷ [])

    back : place - length history ≡ (place - length after) + 1
    back = omega (arith, one, waits.0)

-- so does an entry that is in doubt then
pub IsInDoubt-goes : (history after : List Entry) (ahead left : List (Option Entry)) (entry : Entry) (new : Held)
    → after ≡ history ++ entry ∷ []
    → left ≡ shifted ahead
    → IsInDoubt (WaitsBehind after left) new
    → IsInDoubt (WaitsBehind history ahead) new
IsInDoubt-goes history after ahead left entry new is left_is doubt = record {
  entry = doubt.entry;
  alone = doubt.alone;
  follows = doubt.follows;
  waited = waits-goes history after ahead left entry doubt.entry (length new.history) is left_is doubt.waited;
}

-- the parcel's own entry is in doubt, at its place
pub IsInDoubt-own : (parcel : Parcel) (old : Following) (new : Held)
    → IsInDoubt (λ place waiting. waiting ≡ parcel.entry) new
    → length new.history ≡ parcel.place
    → IsInDoubt (WaitsFor parcel old) new
IsInDoubt-own parcel old new doubt at = record {
  entry = doubt.entry;
  alone = doubt.alone;
  follows = doubt.follows;
  waited = inl (at, doubt.waited);
}

-- one that was kept is in doubt, once the parcel's own was added
pub IsInDoubt-kept : (parcel : Parcel) (history after : List Entry) (ahead : List (Option Entry)) (new : Held)
    → after ≡ history ++ parcel.entry ∷ []
    → IsInDoubt (WaitsBehind after ahead) new
    → IsInDoubt (WaitsFor parcel (record { history = history; ahead = ahead })) new
IsInDoubt-kept parcel history after ahead new is doubt = record {
  entry = doubt.entry;
  alone = doubt.alone;
  follows = doubt.follows;
  waited = inr (
    omega (arith, one, doubt.waited.0),
    ap (λ (n : ℕ). get_or ahead (length new.history - n) None) (sym one) ∙ doubt.waited.1,
  );
}
  where
    one : length after ≡ length history + 1
    one = ap (λ (entries : List Entry). length entries) is ∙ length-append history (parcel.entry ∷ [])
