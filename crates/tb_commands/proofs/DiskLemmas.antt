-- What `run` does to its disk.
use Rattle.std.proofs.Common.{◌≡◌, ◌≢◌, ℕ, ◌+◌, ◌≤◌, List, [], ◌++◌, length, Option, Some, None, ◌⊎◌, inl, inr, sym, subst, ap, ◌∙◌, refl, arith}
use Rattle.std.specs.Prelude.{All, Ok, Err, IfSome}
use Rattle.tb_link.specs.Counts.{NeverFalls, Rose, last_count}
use Rattle.tb_disk.specs.Disks.{DiskState}
use Rattle.tb_disk.specs.Past.{Past, contents_of, MayLeave, Leaves}
use Rattle.tb_disk.proofs.Moments.{Leaves-both, Leaves-start, Leaves-weaker}
use Rattle.tb_journal.specs.Journal.{Told}
use Rattle.tb_journal.specs.Opening.{BreaksOff, IsHarmless, StandsAsWell}
use Rattle.tb_journal.proofs.OpeningLemmas.{breaks_reading}
use Rattle.tb_journal.proofs.ToldLemmas.{Told-both, Told-weaker, told_given}
use Rattle.tb_message.specs.declared.message.Entry.{Entry}
use Rattle.tb_history.specs.Legal.{IsLegal}
use Rattle.tb_history.proofs.HistoryLemmas.{IsLegal-front}
use Rattle.tb_desk.specs.Desks.{CrashesSince, DeskView, PlacedGroup, IsBeginningOr, WasAccepted}
use Rattle.tb_desk.proofs.CrashLemmas.{IsBeginning-whole}
use Rattle.tb_desk.specs.Replay.{IsExact, LeavesRefused}
use Rattle.tb_desk.specs.Stands.{LeavesEither, StandsForEither, StandsForHistory, payloads_of}
use Rattle.tb_desk.specs.declared.fault.OpenFault.{OpenFault}
use Rattle.tb_desk.specs.declared.fault.OpenFault.TheVariants as fault
use Rattle.tb_commands.specs.DiskRun.{CrashesKeep, HasGrown, Keeps, StandsStill, Unopened}
use Rattle.tb_commands.specs.Standings.{Standing, standing}

-- a file that stands for the payloads of another stands for its history
StandsForHistory-well : (history : List Entry) (old new : List ℕ)
    → StandsForHistory history old
    → StandsAsWell old new
    → StandsForHistory history new
StandsForHistory-well history old new stands well = record {
  groups = stands.groups;
  whole = stands.whole;
  stands = well (payloads_of stands.groups) stands.stands;
}

-- so what is harmless leaves what the file stands for
pub StandsStill-harmless : (before now : Past) → IsHarmless before now → StandsStill before now
StandsStill-harmless before now harmless history stands =
    StandsForHistory-well history (contents_of before) (contents_of now) stands harmless.contents

-- the first history is legal where the last is
pub IsLegal-first : (first last : Standing) → HasGrown first last → IsLegal last.history → IsLegal first.history
IsLegal-first first last grown legal = IsLegal-front grown.0 first.history (subst IsLegal grown.1 legal)

-- a crash during the command
keeps-past : (first last : List Entry) (groups : List PlacedGroup) (before mid now : Past)
    → (more : List Entry) × (last ≡ first ++ more)
    → StandsForHistory first (contents_of before)
    → IsHarmless before mid
    → Leaves (IsBeginningOr groups last (length first)) mid now
    → Leaves (λ file. MayLeave before file ⊎ IsBeginningOr groups last (length first) file) before now
keeps-past first last groups before mid now grown stands harmless since =
    let Left : List ℕ → Type 0 = λ file. MayLeave before file ⊎ IsBeginningOr groups last (length first) file in
    let Opening : List ℕ → Type 0 = λ file. MayLeave before file ⊎ StandsAsWell (contents_of before) file in
    Leaves-both Left before mid now (Leaves-weaker Opening Left before mid kept harmless.images)
    (Leaves-weaker (IsBeginningOr groups last (length first)) Left mid now (λ file begins. inr begins) since)
  where
    kept : (file : List ℕ)
        → MayLeave before file ⊎ StandsAsWell (contents_of before) file
        → MayLeave before file ⊎ IsBeginningOr groups last (length first) file
    kept file (inl left) = inl left
    kept file (inr well) =
        inr (inl (IsBeginning-whole first last (length first) file grown (omega arith)
        (StandsForHistory-well first (contents_of before) file stands well)))

-- what an exact answer says of the file
pub exact-stands : (past : Option Past) (history : List Entry)
    → IfSome past (λ past. IsExact (contents_of past) (Ok history))
    → IfSome past (λ past. StandsForHistory history (contents_of past))
exact-stands None history exact = tt
exact-stands (Some past) history exact = exact.is_true.0

-- A desk was opened with the first history, by which the disk went from the old state to the middle one, and was left
-- with the last: it counted so many of its calls that met a fault, and says what each crash left since the opening.
pub record OpenedAndLeft (old mid new : DiskState) (first last : Standing) (recovered faults : ℕ) : Type 0 where
  pub exact : IfSome old.past (λ past. IsExact (contents_of past) (Ok first.history))
  pub first_count : first.faults ≡ mid.faults
  pub recovers : recovered ≡ length first.history
  pub harmless : Told old mid IsHarmless
  pub grown : HasGrown first last
  pub final_count : last.faults ≡ new.faults
  pub since : CrashesSince mid new last.history last.doubt recovered faults last.doubted
  pub counted : (mid.faults + faults ≤ new.faults) ⊎ (new.faults ≡ last_count)

-- each crash during the command, where the desk was opened
pub CrashesKeep-here : (old mid new : DiskState) (first last : Standing) (recovered faults : ℕ)
    → OpenedAndLeft old mid new first last recovered faults
    → CrashesKeep old new first last
CrashesKeep-here old mid new first last recovered faults desk = record {
  each = subst (λ (n : ℕ). All (WasAccepted last.history n) groups) desk.recovers desk.since.each;
  now = desk.since.now;
  few = fewer desk.since.few desk.counted;
  leaves = Told-both Both (λ before now. Leaves Begins before now)
      (λ before now. Leaves (λ file. MayLeave before file ⊎ Begins file) before now) old mid new
      (λ before between now one two. keeps-past first.history last.history groups before between now desk.grown one.1
      one.0 two) opening
      (subst (λ (n : ℕ). Told mid new (λ before now. Leaves (IsBeginningOr groups last.history n) before now))
      desk.recovers desk.since.leaves);
}
  where
    groups : List PlacedGroup
    groups = last.doubted

    Begins : List ℕ → Type 0
    Begins = IsBeginningOr groups last.history (length first.history)

    Both : Past → Past → Type 0
    Both before mid = IsHarmless before mid × StandsForHistory first.history (contents_of before)

    opening : Told old mid Both
    opening = told_given IsHarmless (λ past. StandsForHistory first.history (contents_of past)) Both old mid
        (λ before now one two. (one, two)) desk.harmless (exact-stands old.past first.history desk.exact)

    -- the calls that met a fault are no more than the faults that the disk has counted
    fewer : (length groups ≤ faults) ⊎ (faults ≡ last_count)
        → (mid.faults + faults ≤ new.faults) ⊎ (new.faults ≡ last_count)
        → (first.faults + length groups ≤ last.faults) ⊎ (last_count ≤ last.faults)
    fewer (inl few) (inl within) = inl (omega (arith, few, within, desk.first_count, desk.final_count))
    fewer (inr end_) (inl within) = inr (omega (arith, end_, within, desk.final_count))
    fewer few (inr end_) = inr (omega (arith, end_, desk.final_count))

-- the desk was opened on the disk, with all that the file stood for and nothing else
pub record WasOpened {D : Type 0} (disk : D → DiskState) (old : DiskState) (opened : DeskView D) : Type 0 where
  pub exact : IfSome old.past (λ past. IsExact (contents_of past) (Ok opened.host.history))
  pub made : (opened.doubt ≡ []) × (opened.recovered ≡ length opened.host.history) × (opened.faults ≡ 0)
      × (opened.opened ≡ opened.disk) × (opened.doubted ≡ [])
  pub no_fault : (disk opened.disk).faults ≡ old.faults
  pub harmless : Told old (disk opened.disk) IsHarmless

-- the desk was closed later, and its disk handed back
pub record WasClosed {D : Type 0} (disk : D → DiskState) (opened closed : DeskView D) (left : D) : Type 0 where
  pub kept : (closed.opened ≡ opened.opened) × (closed.recovered ≡ opened.recovered)
  pub grown : HasGrown (standing (disk opened.disk) opened) (standing (disk closed.disk) closed)
  pub is : left ≡ closed.disk
  pub legal : IsLegal closed.host.history
  pub accepted : IsLegal (closed.host.history ++ closed.doubt)
  pub stands : IfSome (disk left).past
      (λ past. StandsForEither closed.host.history closed.doubt (contents_of past))
  pub leaves : LeavesEither (disk left) closed.host.history closed.doubt
  pub since : CrashesSince (disk closed.opened) (disk left) closed.host.history closed.doubt closed.recovered
      closed.faults closed.doubted
  pub counted : ((disk closed.opened).faults + closed.faults ≤ (disk left).faults)
      ⊎ ((disk left).faults ≡ last_count)

-- what the disk keeps then is the history of the desk that was closed
pub Keeps-closed : {D : Type 0} (disk : D → DiskState) (old : DiskState) (opened closed : DeskView D) (left : D)
    → WasOpened disk old opened
    → WasClosed disk opened closed left
    → Keeps old (disk left) (standing (disk opened.disk) opened) (standing (disk closed.disk) closed)
Keeps-closed {D} disk old opened closed left begun done = record {
  opened = record {
    stood = begun.exact;
    legal = IsLegal-first first last done.grown done.legal;
    sure = begun.made.0;
    none = begun.made.4;
    count = begun.no_fault;
  };
  grown = done.grown;
  stays = record {
    legal = done.legal;
    accepted = done.accepted;
    stands = done.stands;
    leaves = done.leaves;
    count = count;
  };
  since = CrashesKeep-here old (disk opened.disk) (disk left) first last closed.recovered closed.faults (record {
    exact = begun.exact;
    first_count = refl;
    recovers = done.kept.1 ∙ begun.made.1;
    harmless = begun.harmless;
    grown = done.grown;
    final_count = count;
    since = subst (λ (d : D). CrashesSince (disk d) (disk left) closed.host.history closed.doubt closed.recovered
        closed.faults closed.doubted) same done.since;
    counted = subst (λ (d : D). ((disk d).faults + closed.faults ≤ (disk left).faults)
        ⊎ ((disk left).faults ≡ last_count)) same done.counted;
  });
}
  where
    first : Standing
    first = standing (disk opened.disk) opened

    last : Standing
    last = standing (disk closed.disk) closed

    count : last.faults ≡ (disk left).faults
    count = ap (λ (d : D). (disk d).faults) (sym done.is)

    -- the closed desk was opened on the disk that the opening left
    same : closed.opened ≡ opened.disk
    same = done.kept.0 ∙ begun.made.3

-- a refusal does no more to the disk than an opening does
pub breaks_refused : (why : OpenFault) (old new : DiskState)
    → Told old new (LeavesRefused why)
    → Told old new BreaksOff
breaks_refused fault.DiskFault old new left = left
breaks_refused fault.OutOfMemory old new left = left
breaks_refused (fault.NotAJournal found) old new left =
    Told-weaker (LeavesRefused (fault.NotAJournal found)) BreaksOff old new
    (λ before now synced. breaks_reading before now (inr synced)) left
breaks_refused (fault.Unsealed byte) old new left =
    Told-weaker (LeavesRefused (fault.Unsealed byte)) BreaksOff old new
    (λ before now synced. breaks_reading before now (inr synced)) left
breaks_refused (fault.Damaged place) old new left =
    Told-weaker (LeavesRefused (fault.Damaged place)) BreaksOff old new
    (λ before now synced. breaks_reading before now (inr synced)) left

-- the desk wasn't opened
pub Unopened-here : (why : OpenFault) (old new : DiskState)
    → IfSome old.past (λ past. IsExact (contents_of past) (Err why))
    → Told old new IsHarmless
    → Told old new (LeavesRefused why)
    → (why ≡ fault.DiskFault → Rose old.faults new.faults)
    → (why ≢ fault.DiskFault → new.faults ≡ old.faults)
    → NeverFalls old.faults new.faults
    → Unopened why old new
Unopened-here why old new exact harmless refused rose no_fault count = record {
  is_true = exact;
  still = Told-weaker IsHarmless StandsStill old new StandsStill-harmless harmless;
  harmless = harmless;
  refused = refused;
  rose = rose;
  no_fault = no_fault;
  count = count;
}

-- nothing happened to the disk
pub Unopened-untouched : (disk : DiskState) → Unopened fault.OutOfMemory disk disk
Unopened-untouched disk =
    Unopened-here fault.OutOfMemory disk disk (exact disk.past)
    (record { silent = λ none. none; told = λ before is. (before, is, harmless before) })
    (record {
      silent = λ none. none;
      told = λ before is. (before, is, record { kept = λ _. inl refl; made = λ _. inl refl });
    }) (λ is. absurd (cc)) (λ other. refl)
    (record { never_falls = omega arith; bounded = λ few. few })
  where
    harmless : (past : Past) → IsHarmless past past
    harmless past = record {
      contents = λ payloads stands. stands;
      images = Leaves-start (λ c. MayLeave past c ⊎ StandsAsWell (contents_of past) c) past (λ c left. inl left);
    }

    exact_file : (file : List ℕ) → IsExact file (Err fault.OutOfMemory)
    exact_file file = record { is_true = tt; only = λ other is_true speaks speaks'. absurd (speaks'.1 refl) }

    exact : (past : Option Past) → IfSome past (λ past. IsExact (contents_of past) (Err fault.OutOfMemory))
    exact None = tt
    exact (Some past) = exact_file (contents_of past)
