-- What contracts see of a desk, and what holds of every desk.
use Rattle.std.specs.Prelude.{◌≡◌, ◌⊎◌, ℕ, ◌+◌, ◌≤◌, min, List, [], ◌∷◌, ◌++◌, ◌-◌, length, map, replicate, take, Option, Some, None, Contains, refl}
use Rattle.std.specs.List.{All}
use Rattle.std.specs.Coded.{Coded, code_by, coded×, coded_ℕ, coded_list}
use Rattle.std.specs.Global.{Vec}
use Rattle.tb_units.specs.declared.moment.Moment.{Moment}
use Rattle.tb_link.specs.Counts.{last_count}
use Rattle.tb_disk.specs.Disks.{DiskState}
use Rattle.tb_message.specs.declared.message.Entry.{Entry}
use Rattle.tb_message.specs.contracts.message.Entry as entry
use Rattle.tb_message.specs.declared.verdict.Verdict.{Verdict}
use Rattle.tb_core.specs.declared.host.Host.{Host}
use Rattle.tb_core.specs.contracts.host.Host as host
use Rattle.tb_history.specs.Legal.{IsLegal}
use Rattle.tb_desk.specs.declared.reply.Reply.{Reply}
use Rattle.tb_desk.specs.declared.reply.Reply.TheVariants as reply
use Rattle.tb_desk.specs.declared.reply.GroupReply.{GroupReply}
use Rattle.tb_desk.specs.declared.reply.GroupReply.TheVariants as group
use Rattle.tb_desk.specs.Stands.{StandsForHistory, Stands, CrashesLeave}
use Rattle.tb_desk.specs.Turn.{Held, Replies}

-- a group, and how many entries of the history stood before it
pub record PlacedGroup : Type 0 where
  pub before : ℕ
  pub group : List Entry

abbrev pub group_code : Coded PlacedGroup
group_code =
    code_by (ℕ × List Entry) (coded× coded_ℕ (coded_list entry.the_row.coded)) (λ placed. (placed.before, placed.group))
    (λ p. record { before = p.0; group = p.1 }) (λ _. refl)

-- such a group, as a desk notes it
abbrev pub noted : ℕ × Vec Entry → PlacedGroup
noted note = record { before = note.0; group = note.1.items }

-- The disk now and as the opening left it; what was accepted, and the room for more; the group in doubt; the place of
-- the journal's gate; how many entries were recovered; how many calls since the opening were answered with a disk
-- fault; and the groups that were in doubt after these.
pub record DeskView (D : Type 0) : Type 0 where
  pub disk : D
  pub opened : D
  pub host : Host
  pub doubt : List Entry
  pub gate : ℕ
  pub recovered : ℕ
  pub faults : ℕ
  pub doubted : List PlacedGroup

abbrev pub desk_code : {D : Type 0} → Coded D → Coded (DeskView D)
desk_code {D} disk =
    code_by (D × (D × (Host × (List Entry × (ℕ × (ℕ × (ℕ × List PlacedGroup)))))))
    (coded× disk (coded× disk (coded× host.the_row.coded (coded× (coded_list entry.the_row.coded)
    (coded× coded_ℕ (coded× coded_ℕ (coded× coded_ℕ (coded_list group_code))))))))
    (λ v. (v.disk, (v.opened, (v.host, (v.doubt, (v.gate, (v.recovered, (v.faults, v.doubted))))))))
    (λ p. record {
      disk = p.0;
      opened = p.1.0;
      host = p.1.1.0;
      doubt = p.1.1.1.0;
      gate = p.1.1.1.1.0;
      recovered = p.1.1.1.1.1.0;
      faults = p.1.1.1.1.1.1.0;
      doubted = p.1.1.1.1.1.1.1;
    })
    (λ _. refl)

-- the history and the group in doubt
abbrev pub held : {D : Type 0} → DeskView D → Held
held desk = record { history = desk.host.history; doubt = desk.doubt }

-- but for the room, nothing has changed
pub record IsSame {D : Type 0} (old new : DeskView D) : Type 0 where
  pub disk : new.disk ≡ old.disk
  pub opened : new.opened ≡ old.opened
  pub doubt : new.doubt ≡ old.doubt
  pub gate : new.gate ≡ old.gate
  pub recovered : new.recovered ≡ old.recovered
  pub faults : new.faults ≡ old.faults
  pub doubted : new.doubted ≡ old.doubted

-- but for the disk, nothing has changed
pub record IsRead {D : Type 0} (old new : DeskView D) : Type 0 where
  pub opened : new.opened ≡ old.opened
  pub host : new.host ≡ old.host
  pub doubt : new.doubt ≡ old.doubt
  pub gate : new.gate ≡ old.gate
  pub recovered : new.recovered ≡ old.recovered
  pub faults : new.faults ≡ old.faults
  pub doubted : new.doubted ≡ old.doubted

-- the entries are one group: of one submitter at one moment, and no more than share a gate
pub record IsOneGroup (entries : List Entry) : Type 0 where
  pub submitter : List ℕ
  pub moment : Moment
  pub few : length entries ≤ 64
  pub each : All (λ (entry : Entry). (entry.submitter ≡ submitter) × (entry.moment ≡ moment)) entries

-- so many entries of the history, and the group behind them
abbrev pub with_group : List Entry → PlacedGroup → List Entry
with_group history placed = take placed.before history ++ placed.group

-- it is one group, and was accepted on a beginning of the history that has the recovered one
pub record WasAccepted (history : List Entry) (recovered : ℕ) (placed : PlacedGroup) : Type 0 where
  pub one : IsOneGroup placed.group
  pub enough : recovered ≤ placed.before
  pub within : placed.before ≤ length history
  pub accepted : IsLegal (with_group history placed)

-- a file stands for a beginning of the history that has the recovered one
pub record IsBeginning (history : List Entry) (recovered : ℕ) (file : List ℕ) : Type 0 where
  pub kept : ℕ
  pub enough : recovered ≤ kept
  pub within : kept ≤ length history
  pub stands : StandsForHistory (take kept history) file

-- or for a beginning followed by one of these groups, at its place
abbrev pub IsBeginningOr : List PlacedGroup → List Entry → ℕ → List ℕ → Type 0
IsBeginningOr groups history recovered file =
    IsBeginning history recovered file
    ⊎ ((placed : PlacedGroup) × Contains groups placed × StandsForHistory (with_group history placed) file)

-- Every crash since the opening left a beginning of the history that has the recovered one, or one followed by one of
-- the groups that were in doubt after a call, which was accepted there. The group that is in doubt now is among these,
-- and there are no more of them than calls that were answered with a disk fault, unless that count stands at its last
-- value.
pub record CrashesSince (opened disk : DiskState) (history doubt : List Entry) (recovered faults : ℕ)
    (doubted : List PlacedGroup) : Type 0
  where
    pub each : All (WasAccepted history recovered) doubted
    pub now : 1 ≤ length doubt → Contains doubted (record { before = length history; group = doubt })
    pub few : (length doubted ≤ faults) ⊎ (faults ≡ last_count)
    pub leaves : CrashesLeave (IsBeginningOr doubted history recovered) opened disk

-- what holds of every desk
pub record IsDesk (disk opened : DiskState) (gate : ℕ) (next : Option ℕ) (history doubt : List Entry)
    (recovered faults : ℕ) (doubted : List PlacedGroup) : Type 0 where
  pub stands : Stands disk gate next history doubt
  pub recovers : recovered ≤ length history
  pub since : CrashesSince opened disk history doubt recovered faults doubted
  pub counted : (opened.faults + faults ≤ disk.faults) ⊎ (disk.faults ≡ last_count)
  pub limited : faults ≤ last_count

-- the room that every desk has for a group, and for its payload
pub record HasBuffers (entries bytes : ℕ) : Type 0 where
  pub entries_fit : 64 ≤ entries
  pub bytes_fit : 32768 ≤ bytes

-- a reply to one message
abbrev pub replies_of : Reply → Replies
replies_of (reply.Verdict verdict) = Some (verdict ∷ [])
replies_of reply.DiskFault = None

-- the answer to a group tells the verdicts in the first places, in order, and nothing in the others
abbrev pub Tells : GroupReply → List (Option Verdict) → Replies → Type 0
Tells group.Verdicts places (Some given) = places ≡ map Some given ++ replicate (64 - length given) None
Tells group.Verdicts places None = ⊥
Tells group.DiskFault places (Some given) = ⊥
Tells group.DiskFault places None = places ≡ replicate 64 None

-- a group was answered, or met a fault
abbrev pub told_by : GroupReply → Replies
told_by group.Verdicts = Some []
told_by group.DiskFault = None

-- a disk fault is counted, as long as the count isn't at its last value
abbrev pub CountsFault : Replies → ℕ → ℕ → Type 0
CountsFault None old new = new ≡ min (old + 1) last_count
CountsFault (Some verdicts) old new = new ≡ old

-- what a call leaves in doubt: after a disk fault the group, behind the history
abbrev pub doubted_by : Replies → Held → List PlacedGroup
doubted_by None after = record { before = length after.history; group = after.doubt } ∷ []
doubted_by (Some verdicts) after = []
