-- How `follow send` and `follow take` end.
use Rattle.std.proofs.Common.{◌≡◌, ◌≢◌, ◌⊎◌, inl, inr, ℕ, ◌+◌, ◌≤◌, List, [], ◌++◌, length, refl, ap, sym, ◌∙◌, subst, append-nil, append_assoc}
use Rattle.std.specs.Prelude.{Option, Some, None, Result, Ok, Err, IfSome}
use Rattle.tb_link.specs.Counts.{Rose}
use Rattle.tb_link.specs.Sources.{SourceState}
use Rattle.tb_disk.specs.Disks.{DiskState}
use Rattle.tb_disk.specs.Past.{Past, contents_of}
use Rattle.tb_journal.specs.Journal.{Told}
use Rattle.tb_message.specs.declared.message.Entry.{Entry}
use Rattle.tb_message.specs.Spelling.{IsInRange}
use Rattle.tb_history.specs.Legal.{IsLegal}
use Rattle.tb_desk.specs.Replay.{IsTrueIn, SpeaksOfFile}
use Rattle.tb_desk.specs.declared.fault.OpenFault.{OpenFault}
use Rattle.tb_message.specs.declared.version.Version.TheVariants.{Second}
use Rattle.tb_parcel.specs.declared.parcel.Parcel.{Parcel}
use Rattle.tb_parcel.specs.Parcels.{parcel_bytes}
use Rattle.tb_replica.specs.Following as followed
use Rattle.tb_replica.specs.Following.{Following, Outcome}
use Rattle.tb_replica.specs.declared.taken.TakeFault.TheVariants as fault
use Rattle.tb_replica.proofs.GoingLemmas.{AreTaken-goes_on, Takes-goes_on}
use Rattle.tb_words.specs.declared.command.Command.TheVariants as command
use Rattle.tb_commands.specs.Completeness.{AnswersParcels, Completes, IsAnswered, IsForked, LackedMemory, Opens}
use Rattle.tb_commands.specs.DiskRun.{HasGrown, Opened}
use Rattle.tb_commands.specs.Endings.{ending_of, of_disk, of_send, of_take}
use Rattle.tb_commands.specs.FollowSendRun.{FollowSendEnds, RoseWith, Sends, SendsDesk}
use Rattle.tb_commands.specs.FollowSteps.{InputTaken, IsTakenAs}
use Rattle.tb_commands.specs.FollowTakeRun.{BreaksOff, FollowTakeEnds, IsParcels, IsSureSince, LeavesInDoubt, TakeEnds}
use Rattle.tb_commands.specs.FollowTakeRun.{TakesAll, TakesBefore, TakesInPart, bytes_of, most_parcels}
use Rattle.tb_commands.specs.ParcelInput.{FindsWhereTold}
use Rattle.tb_commands.specs.RunEnds.{Devices}
use Rattle.tb_commands.specs.Standings.{Standing}
use Rattle.tb_commands.specs.declared.command_endings.DiskEnding.{DiskEnding}
use Rattle.tb_commands.specs.declared.command_endings.DiskEnding.TheVariants as disk_ending
use Rattle.tb_commands.specs.declared.command_endings.SendEnding.{SendEnding}
use Rattle.tb_commands.specs.declared.command_endings.SendEnding.TheVariants as send_ending
use Rattle.tb_commands.specs.declared.command_endings.TakeEnding.{TakeEnding}
use Rattle.tb_commands.specs.declared.command_endings.TakeEnding.TheVariants as take_ending
use Rattle.tb_commands.specs.declared.ending.Ending.{Ending}
use Rattle.tb_commands.specs.declared.ending.Ending.TheVariants as ending
use Rattle.tb_commands.proofs.ExactLemmas.{Opens-desk, Opens-none}
use Rattle.tb_commands.proofs.FollowTakeLemmas.{BreaksOff-here, SoFar}
use Rattle.tb_commands.proofs.ParcelTextLemmas.{one_bad, whole_not_bad}

-- what is so of no past that is told is so where none is told
none_told : (found : Option Past) → IfSome found (λ past. ⊥) → found ≡ None
none_told None never = refl
none_told (Some past) never = absurd never

-- a disk that tells its contents isn't damaged where it was opened
unread_untold : (disk : DiskState) (ended : Ending) (Then : Type 0)
    → IfSome disk.past (λ past. ⊥)
    → Opens disk ended Then
unread_untold disk ended Then never =
    let none = none_told disk.past never in
    record {
      history = λ has. let told : Some has.0 ≡ None = sym has.1 ∙ none in absurd (cc (told));
      refused = subst (λ (found : Option Past). IfSome found (λ past. (why : OpenFault)
          → IsTrueIn Second (contents_of past) (Err why)
          → SpeaksOfFile (Err why)
          → (ended ≡ ending_of why) ⊎ (ended ≡ ending.DiskFault) ⊎ LackedMemory ended)) (sym none) tt;
    }

-- `follow send` is answered
pub send-completes : (from : ℕ) (own : DiskEnding SendEnding) (input input' : SourceState) (old new : Devices)
    → FollowSendEnds from own input input' old new
    → Completes (command.FollowSend from) input old.disk (of_disk of_send own)
send-completes from (disk_ending.Opened send_ending.Done) input input' old new sent =
    Opens-desk old.disk sent.ends.0 ending.Done _ sent.ends.2.opened (inr (inl refl))
send-completes from (disk_ending.Opened send_ending.WriteFault) input input' old new sent =
    Opens-desk old.disk sent.ends.0 ending.WriteFault _ sent.ends.2.opened (inr (inr (inl refl)))
send-completes from (disk_ending.Opened send_ending.DiskFault) input input' old new sent =
    Opens-desk old.disk sent.ends.0 ending.DiskFault _ sent.ends.2.opened (inl refl)
send-completes from (disk_ending.Opened (send_ending.Damaged place)) input input' old new sent =
    unread_untold old.disk (ending.Damaged place) _ sent.ends.3.sent
send-completes from (disk_ending.Unopened why) input input' old new sent =
    Opens-none why old.disk new.disk _ sent.ends.unopened

-- what was taken whole is parcels
IsParcels-whole : (input input' : SourceState) (first last : Standing) (taken : TakesAll input input' first last)
    (text : List ℕ)
    → input.left ≡ Some text
    → IsParcels taken.0 text
IsParcels-whole input input' first last taken text told =
    let all = taken.2.1 text told in (
      taken.2.0,
      all.1 ∙ ap (λ (rest : List ℕ). bytes_of taken.0 ++ rest) all.2.0 ∙ append-nil (bytes_of taken.0),
    )

module _ (old : DiskState) (input input' : SourceState) (first last : Standing) (text : List ℕ)
    (told : input.left ≡ Some text) where
  -- where all parcels were taken none of them is bad
  all-answered : (ended : Ending)
      → IsAnswered ended
      → TakesAll input input' first last
      → AnswersParcels old text ended
  all-answered ended is taken = record {
    answered = λ parcels whole. inr (inr (inr is));
    refused = λ number parcels bad. absurd (whole_not_bad taken.0 parcels number text
        (IsParcels-whole input input' first last taken text told) bad);
  }

  -- the first bad one is told
  bad-answered : (number : ℕ) → TakesBefore number input input' first last → AnswersParcels old text (ending.BadInput number)
  bad-answered number taken = record {
    answered = λ parcels whole. absurd (whole_not_bad parcels taken.0 number text whole (taken.3 text told));
    refused = λ other parcels bad.
        inr (inr (inr (ap ending.BadInput (one_bad taken.0 parcels number other text (taken.3 text told) bad))));
  }

  -- and so is a fork
  fork-answered : (place : ℕ)
      → Opened old first
      → BreaksOff (fault.Forked place) input input' first last
      → AnswersParcels old text (ending.Forked place)
  fork-answered place opened broken =
      let come = broken.3.1 text told in
      let forked : IsForked old text (ending.Forked place) = record {
        place = place;
        told = refl;
        history = first.history;
        stood = opened.stood;
        parcels = broken.0;
        parcel = broken.1;
        last = last.history;
        forks = (broken.2.0, broken.2.1, broken.2.2, broken.2.3, broken.2.4, tt);
        rest = come.0;
        is = come.1;
      } in
      record {
        answered = λ parcels whole. inr (inr (inl forked));
        refused = λ number parcels bad. inr (inr (inl forked));
      }

-- `follow take` is answered
pub take-completes : (own : DiskEnding TakeEnding) (input input' : SourceState) (old new : Devices)
    → FollowTakeEnds own input input' old new
    → Completes command.FollowTake input old.disk (of_disk of_take own)
take-completes (disk_ending.Opened take_ending.Done) input input' old new ends =
    Opens-desk old.disk ends.0 ending.Done _ ends.2.opened (λ text told.
    all-answered old.disk input input' ends.0 ends.1 text told ending.Done (inl refl) ends.3.0)
take-completes (disk_ending.Opened take_ending.WriteFault) input input' old new ends =
    Opens-desk old.disk ends.0 ending.WriteFault _ ends.2.opened (λ text told.
    all-answered old.disk input input' ends.0 ends.1 text told ending.WriteFault (inr (inl refl)) ends.3.0)
take-completes (disk_ending.Opened (take_ending.BadInput number)) input input' old new ends =
    Opens-desk old.disk ends.0 (ending.BadInput number) _ ends.2.opened (λ text told.
    bad-answered old.disk input input' ends.0 ends.1 text told number ends.3.0.0)
take-completes (disk_ending.Opened take_ending.ReadFault) input input' old new ends =
    Opens-desk old.disk ends.0 ending.ReadFault _ ends.2.opened (λ text told. record {
      answered = λ parcels whole. inr (inl refl);
      refused = λ number parcels bad. inr (inl refl);
    })
take-completes (disk_ending.Opened take_ending.DiskFault) input input' old new ends =
    Opens-desk old.disk ends.0 ending.DiskFault _ ends.2.opened (λ text told. record {
      answered = λ parcels whole. inl (inl refl);
      refused = λ number parcels bad. inl (inl refl);
    })
take-completes (disk_ending.Opened (take_ending.Forked place)) input input' old new ends =
    Opens-desk old.disk ends.0 (ending.Forked place) _ ends.2.opened (λ text told.
    fork-answered old.disk input input' ends.0 ends.1 text told place ends.2.opened ends.3.0.0)
take-completes (disk_ending.Opened take_ending.OutOfMemory) input input' old new ends =
    Opens-desk old.disk ends.0 ending.OutOfMemory _ ends.2.opened (λ text told. record {
      answered = λ parcels whole. inl (inr refl);
      refused = λ number parcels bad. inl (inr refl);
    })
take-completes (disk_ending.Unopened why) input input' old new ends =
    Opens-none why old.disk new.disk _ ends.unopened

-- what was said of a disk is so as long as it holds the same
pub Told-same : (P : Past → Past → Type 0) (old mid new : DiskState)
    → new.past ≡ mid.past
    → Told old mid P
    → Told old new P
Told-same P old mid new same so = record {
  silent = λ none. same ∙ so.silent none;
  told = λ before is. let now = so.told before is in (now.0, same ∙ now.1, now.2);
}

-- what is so where the opened disk tells its contents is so where it told them before
pub told_first : (P : Past → Past → Type 0) (Q : Type 0) (old mid : DiskState)
    → Told old mid P
    → IfSome mid.past (λ past. Q)
    → IfSome old.past (λ past. Q)
told_first P Q old mid so holds = first old.past refl
  where
    first : (found : Option Past) → old.past ≡ found → IfSome found (λ past. Q)
    first None is = tt
    first (Some before) is =
        let now = so.told before is in
        subst (λ (found : Option Past). IfSome found (λ past. Q)) now.1 holds

-- a sending that ended on a desk
pub SendsDesk-here : (from : ℕ) (own : SendEnding) (old new : Devices) (mid left : DiskState) (first last : Standing)
    (P : Past → Past → Type 0)
    → Told old.disk mid P
    → mid.faults ≡ old.disk.faults
    → new.disk ≡ left
    → last.history ≡ first.history
    → last.doubt ≡ []
    → IfSome mid.past (λ past. Sends from first.history own old.out new.out)
    → RoseWith own (record { out = old.out; disk = mid }) (record { out = new.out; disk = left })
    → SendsDesk from own old new first last
SendsDesk-here from own old new mid left first last P told same_count is same sure sent rose = record {
  same = same;
  sure = sure;
  sent = told_first P _ old.disk mid told sent;
  cause = cause own rose;
}
  where
    cause : (own : SendEnding)
        → RoseWith own (record { out = old.out; disk = mid }) (record { out = new.out; disk = left })
        → RoseWith own old new
    cause send_ending.Done rose = rose
    cause send_ending.WriteFault rose = rose
    cause send_ending.DiskFault rose =
        subst (λ (d : DiskState). Rose old.disk.faults d.faults) (sym is)
        (subst (λ (n : ℕ). Rose n left.faults) same_count rose)
    cause (send_ending.Damaged place) rose = tt

module _ (input input' : SourceState) (first last : Standing) where
  -- nothing was printed
  pub TakeEnds-part : (own : TakeEnding) (old new : Devices)
      → TakesInPart own input input' old.disk.faults new.disk.faults first last
      → new.out ≡ old.out
      → TakeEnds own input input' old new first last
  TakeEnds-part take_ending.Done old new part silent = absurd part
  TakeEnds-part take_ending.WriteFault old new part silent = absurd part
  TakeEnds-part (take_ending.BadInput number) old new part silent = (part, silent)
  TakeEnds-part take_ending.ReadFault old new part silent = (part, silent)
  TakeEnds-part take_ending.DiskFault old new part silent = (part, silent)
  TakeEnds-part (take_ending.Forked place) old new part silent = (part, silent)
  TakeEnds-part take_ending.OutOfMemory old new part silent = (part, silent)

  -- a fault of the disk since it was opened is one since then and before
  part-since : (own : TakeEnding) (before between now : ℕ)
      → between ≡ before
      → TakesInPart own input input' between now first last
      → TakesInPart own input input' before now first last
  part-since own before between now same part =
      subst (λ (n : ℕ). TakesInPart own input input' n now first last) same part

  -- and one until it is handed back
  part-here : (own : TakeEnding) (old new : Devices) (mid left : DiskState)
      → mid.faults ≡ old.disk.faults
      → new.disk ≡ left
      → TakesInPart own input input' mid.faults left.faults first last
      → new.out ≡ old.out
      → TakesInPart own input input' old.disk.faults new.disk.faults first last × (new.out ≡ old.out)
  part-here own old new mid left same is part silent = (
    subst (λ (d : DiskState). TakesInPart own input input' old.disk.faults d.faults first last) (sym is)
        (part-since own old.disk.faults mid.faults left.faults same part),
    silent,
  )

  -- with a copy that was opened on the disk
  pub TakeEnds-since : (own : TakeEnding) (old new : Devices) (mid left : DiskState)
      → mid.faults ≡ old.disk.faults
      → new.disk ≡ left
      → TakeEnds own input input' (record { out = old.out; disk = mid }) (record { out = new.out; disk = left }) first
      last
      → TakeEnds own input input' old new first last
  TakeEnds-since take_ending.Done old new mid left same is ends = ends
  TakeEnds-since take_ending.WriteFault old new mid left same is ends = ends
  TakeEnds-since (take_ending.BadInput number) old new mid left same is ends =
      part-here (take_ending.BadInput number) old new mid left same is ends.0 ends.1
  TakeEnds-since take_ending.ReadFault old new mid left same is ends =
      part-here take_ending.ReadFault old new mid left same is ends.0 ends.1
  TakeEnds-since take_ending.DiskFault old new mid left same is ends =
      part-here take_ending.DiskFault old new mid left same is ends.0 ends.1
  TakeEnds-since (take_ending.Forked place) old new mid left same is ends =
      part-here (take_ending.Forked place) old new mid left same is ends.0 ends.1
  TakeEnds-since take_ending.OutOfMemory old new mid left same is ends =
      part-here take_ending.OutOfMemory old new mid left same is ends.0 ends.1

module _ (history : List Entry) (number : ℕ) (input : SourceState) (now : Following) (coming : Option (List ℕ))
    (count : ℕ) (so_far : SoFar history number input now coming count) where
  -- the next parcel was answered with a fault
  pub InputTaken-broken : (own : TakeEnding) (new : Following) (parcel : Parcel) (behind : Option (List ℕ))
      (read : List ℕ) (input' : SourceState) (faults faults' : ℕ) (first last : Standing)
      → first.history ≡ history
      → last.history ≡ new.history
      → (own ≢ take_ending.DiskFault → IsSureSince first last)
      → (own ≡ take_ending.DiskFault → LeavesInDoubt fault.DiskFault parcel first last now)
      → (own ≡ take_ending.DiskFault → Rose faults faults')
      → (own ≢ take_ending.DiskFault → faults' ≡ faults)
      → number ≤ most_parcels
      → IsInRange parcel.entry
      → IsTakenAs parcel now new (Err own)
      → FindsWhereTold coming (Ok (Some parcel)) behind read
      → input'.faults ≡ input.faults
      → input'.reads ≤ count + length (parcel_bytes parcel)
      → InputTaken (Err own) input input' faults faults' first last
  InputTaken-broken take_ending.Done new parcel behind read input' faults faults' first last begins is sure left
      rose stays few in_range taken finds same reads = absurd taken
  InputTaken-broken take_ending.WriteFault new parcel behind read input' faults faults' first last begins is sure left
      rose stays few in_range taken finds same reads = absurd taken
  InputTaken-broken take_ending.ReadFault new parcel behind read input' faults faults' first last begins is sure left
      rose stays few in_range taken finds same reads = absurd taken
  InputTaken-broken (take_ending.BadInput other) new parcel behind read input' faults faults' first last begins is sure left
      rose stays few in_range taken finds same reads = absurd taken
  InputTaken-broken take_ending.DiskFault new parcel behind read input' faults faults' first last begins is sure left
      rose stays few in_range taken finds same reads = (
        BreaksOff-here history number input now coming count so_far fault.DiskFault new parcel behind read input' first
            last begins is few in_range taken (left refl) finds reads,
        rose refl,
        same,
      )
  InputTaken-broken (take_ending.Forked place) new parcel behind read input' faults faults' first last begins is sure left
      rose stays few in_range taken finds same reads = (
        BreaksOff-here history number input now coming count so_far (fault.Forked place) new parcel behind read input'
            first last begins is few in_range taken (sure (λ other. (cc))) finds reads,
        (sure (λ other. (cc))).0,
        same,
        stays (λ other. (cc)),
      )
  InputTaken-broken take_ending.OutOfMemory new parcel behind read input' faults faults' first last begins is sure left
      rose stays few in_range taken finds same reads = (
        inl (BreaksOff-here history number input now coming count so_far fault.OutOfMemory new parcel behind read input'
            first last begins is few in_range taken (sure (λ other. (cc))) finds reads),
        (sure (λ other. (cc))).0,
        same,
        stays (λ other. (cc)),
      )

  -- the copy has gone on from the history that it was opened with
  pub grown_so_far : (first last : Standing)
      → IsLegal history
      → first.history ≡ history
      → last.history ≡ now.history
      → HasGrown first last
  grown_so_far first last legal begins is =
      let taken = so_far.taken in
      let on = AreTaken-goes_on so_far.parcels taken.opened now (subst IsLegal (sym taken.begins) legal) taken.taken in
      (on.more, is ∙ on.is ∙ ap (λ (h : List Entry). h ++ on.more) (taken.begins ∙ sym begins))

  -- and so it has with one parcel more
  pub grown_last : (first last : Standing) (new : Following) (parcel : Parcel) (outcome : Outcome)
      → IsLegal history
      → first.history ≡ history
      → last.history ≡ new.history
      → followed.Takes parcel now new outcome
      → HasGrown first last
  grown_last first last new parcel outcome legal begins is takes =
      let taken = so_far.taken in
      let on = AreTaken-goes_on so_far.parcels taken.opened now (subst IsLegal (sym taken.begins) legal) taken.taken in
      let behind = Takes-goes_on parcel now new outcome on.legal takes in (
        on.more ++ behind.more,
        is ∙ behind.is ∙ ap (λ (h : List Entry). h ++ behind.more) (on.is
            ∙ ap (λ (h : List Entry). h ++ on.more) (taken.begins ∙ sym begins))
            ∙ append_assoc first.history on.more behind.more,
      )

  -- whatever the parcel was answered
  pub grown_taken : (first last : Standing) (new : Following) (parcel : Parcel) (result : Result (Unit {0}) TakeEnding)
      → IsLegal history
      → first.history ≡ history
      → last.history ≡ new.history
      → IsTakenAs parcel now new result
      → HasGrown first last
  grown_taken first last new parcel (Ok done) legal begins is taken =
      grown_last first last new parcel (Ok taken.0) legal begins is taken.1
  grown_taken first last new parcel (Err take_ending.DiskFault) legal begins is taken =
      grown_last first last new parcel (Err fault.DiskFault) legal begins is taken
  grown_taken first last new parcel (Err (take_ending.Forked place)) legal begins is taken =
      grown_last first last new parcel (Err (fault.Forked place)) legal begins is taken
  grown_taken first last new parcel (Err take_ending.OutOfMemory) legal begins is taken =
      grown_last first last new parcel (Err fault.OutOfMemory) legal begins is taken
  grown_taken first last new parcel (Err take_ending.Done) legal begins is taken = absurd taken
  grown_taken first last new parcel (Err take_ending.WriteFault) legal begins is taken = absurd taken
  grown_taken first last new parcel (Err take_ending.ReadFault) legal begins is taken = absurd taken
  grown_taken first last new parcel (Err (take_ending.BadInput number)) legal begins is taken = absurd taken
