-- The file decides whether a disk is opened.
use Rattle.std.proofs.Common.{◌≡◌, ◌⊎◌, List, Option, Some, None, inl, inr, subst, ap, refl}
use Rattle.std.specs.Prelude.{Ok, Err, IfSome}
use Rattle.tb_disk.specs.Disks.{DiskState}
use Rattle.tb_disk.specs.Past.{Past, contents_of}
use Rattle.tb_message.specs.declared.message.Entry.{Entry}
use Rattle.tb_message.specs.declared.version.Version.{Version}
use Rattle.tb_message.specs.declared.version.Version.TheVariants.{Second}
use Rattle.tb_desk.specs.Replay.{Answer, IsExactIn, IsTrueIn, SpeaksOfFile}
use Rattle.tb_desk.specs.declared.fault.OpenFault.{OpenFault}
use Rattle.tb_desk.specs.declared.fault.OpenFault.TheVariants as fault
use Rattle.tb_commands.specs.Completeness.{HasHistoryIn, LackedMemory, Opens, OpensIn}
use Rattle.tb_commands.specs.DiskRun.{Opened, Unopened}
use Rattle.tb_commands.specs.Endings.{ending_of}
use Rattle.tb_commands.specs.Standings.{Standing}
use Rattle.tb_commands.specs.declared.ending.Ending.{Ending}
use Rattle.tb_commands.specs.declared.ending.Ending.TheVariants as ending

-- a history speaks of the file
speaks-history : (history : List Entry) → SpeaksOfFile (Ok history)
speaks-history history = ((λ is. (cc)), (λ is. (cc)))

-- what is known of a past that is told
known : (P : Past → Type 0) (found : Option Past) (past : Past) → found ≡ Some past → IfSome found P → P past
known P found past is holds = subst (λ (p : Option Past). IfSome p P) is holds

-- where the past is told
told_past : (P : Past → Type 0) (found : Option Past) → ((past : Past) → found ≡ Some past → P past)
    → IfSome found P
told_past P None follows = tt
told_past P (Some past) follows = follows past refl

module _ (version : Version) where
  -- of a disk that tells its contents this answer is true, and no other is
  abbrev pub IsAnswered : DiskState → Answer → Type 0
  IsAnswered disk answer = IfSome disk.past (λ past. IsExactIn version (contents_of past) answer)

  -- a file that stands for a legal history isn't refused
  refused-not : (why : OpenFault) (disk : DiskState)
      → HasHistoryIn version disk
      → IsAnswered disk (Err why)
      → SpeaksOfFile (Err why)
      → ⊥
  refused-not why disk stands answered speaks =
      let exact : IsExactIn version (contents_of stands.0) (Err why) =
      known (λ past. IsExactIn version (contents_of past) (Err why)) disk.past stands.0 stands.1 answered in
      let same : Err why ≡ Ok stands.2 =
      exact.only (Ok stands.2) (stands.3, stands.4) (speaks-history stands.2) speaks in
      cc

  -- a file that is to be refused isn't opened
  opened-not : (why : OpenFault) (past : Past) (history : List Entry)
      → IsTrueIn version (contents_of past) (Err why)
      → SpeaksOfFile (Err why)
      → IsExactIn version (contents_of past) (Ok history)
      → ⊥
  opened-not why past history is_true speaks exact =
      let same : Ok history ≡ Err why = exact.only (Err why) is_true speaks (speaks-history history) in
      cc

  -- a file that is refused for a reason that speaks of it is refused for that which is true of it
  reason-true : (why given : OpenFault) (past : Past) (disk : DiskState)
      → disk.past ≡ Some past
      → IsTrueIn version (contents_of past) (Err why)
      → SpeaksOfFile (Err why)
      → IsAnswered disk (Err given)
      → SpeaksOfFile (Err given)
      → ending_of given ≡ ending_of why
  reason-true why given past disk told is_true speaks answered speaks_given =
      let exact : IsExactIn version (contents_of past) (Err given) =
      known (λ past. IsExactIn version (contents_of past) (Err given)) disk.past past told answered in
      let same : Err given ≡ Err why = exact.only (Err why) is_true speaks speaks_given in
      let one : given ≡ why = (cc) in
      ap ending_of one

  -- and it is refused for this reason, unless the disk fails or memory runs out
  reasons-one : (why given : OpenFault) (past : Past) (disk : DiskState)
      → disk.past ≡ Some past
      → IsTrueIn version (contents_of past) (Err why)
      → SpeaksOfFile (Err why)
      → IsAnswered disk (Err given)
      → (ending_of given ≡ ending_of why) ⊎ (ending_of given ≡ ending.DiskFault) ⊎ LackedMemory (ending_of given)
  reasons-one why fault.DiskFault past disk told is_true speaks answered = inr (inl refl)
  reasons-one why (fault.NotAJournal found) past disk told is_true speaks answered =
      inl (reason-true why (fault.NotAJournal found) past disk told is_true speaks answered
      ((λ is. (cc)), (λ is. (cc))))
  reasons-one why (fault.Unsealed byte) past disk told is_true speaks answered =
      inl (reason-true why (fault.Unsealed byte) past disk told is_true speaks answered ((λ is. (cc)), (λ is. (cc))))
  reasons-one why (fault.Damaged place) past disk told is_true speaks answered =
      inl (reason-true why (fault.Damaged place) past disk told is_true speaks answered ((λ is. (cc)), (λ is. (cc))))
  reasons-one why fault.OutOfMemory past disk told is_true speaks answered = inr (inr refl)

  -- a disk that stands for a legal history is opened, unless it fails or memory runs out
  opened-of : (why : OpenFault) (disk : DiskState)
      → HasHistoryIn version disk
      → IsAnswered disk (Err why)
      → (ending_of why ≡ ending.DiskFault) ⊎ LackedMemory (ending_of why)
  opened-of fault.DiskFault disk stands answered = inl refl
  opened-of (fault.NotAJournal found) disk stands answered =
      absurd (refused-not (fault.NotAJournal found) disk stands answered ((λ is. (cc)), (λ is. (cc))))
  opened-of (fault.Unsealed byte) disk stands answered =
      absurd (refused-not (fault.Unsealed byte) disk stands answered ((λ is. (cc)), (λ is. (cc))))
  opened-of (fault.Damaged place) disk stands answered =
      absurd (refused-not (fault.Damaged place) disk stands answered ((λ is. (cc)), (λ is. (cc))))
  opened-of fault.OutOfMemory disk stands answered = inr refl

  -- what a command may end as that found a history on the disk
  pub OpensIn-found : (disk : DiskState) (history : List Entry) (ended : Ending) (Then : Type 0)
      → IsAnswered disk (Ok history)
      → Then
      → OpensIn version disk ended Then
  OpensIn-found disk history ended Then answered then = record {
    history = λ has. inr (inr then);
    refused = told_past _ disk.past (λ past told why is_true speaks.
        absurd (opened-not why past history is_true speaks
        (known (λ past. IsExactIn version (contents_of past) (Ok history)) disk.past past told answered)));
  }

  -- and that was refused one
  pub OpensIn-refused : (why : OpenFault) (disk : DiskState) (Then : Type 0)
      → IsAnswered disk (Err why)
      → OpensIn version disk (ending_of why) Then
  OpensIn-refused why disk Then answered = record {
    history = λ has. elim (opened-of why disk has answered) [
      | inl failed ↦ inl failed
      | inr lacked ↦ inr (inl lacked)
    ];
    refused = told_past _ disk.past (λ past told other is_true speaks.
        reasons-one other why past disk told is_true speaks answered);
  }

-- what a command may end as that opened the desk
pub Opens-desk : (old : DiskState) (first : Standing) (ended : Ending) (Then : Type 0)
    → Opened old first
    → Then
    → Opens old ended Then
Opens-desk old first ended Then opened then = OpensIn-found Second old first.history ended Then opened.stood then

-- and that didn't
pub Opens-none : (why : OpenFault) (old new : DiskState) (Then : Type 0)
    → Unopened why old new
    → Opens old (ending_of why) Then
Opens-none why old new Then unopened = OpensIn-refused Second why old Then unopened.is_true
