-- What a journal's disk holds, between calls and in doubt.
use Rattle.std.specs.Prelude.{◌≡◌, ◌≢◌, ◌⊎◌, ℕ, ◌+◌, List, [], ◌∷◌, ◌++◌, length, Option, Some, None, Bool, MatchBool}
use Rattle.tb_disk.specs.Past.{Past, Then, contents_of, MayLeave, IsSynced, Leaves}
use Rattle.tb_disk.specs.Steps.{Wrote, Tore, Synced, Torn}
use Rattle.tb_disk.specs.Disks.{DiskState}
use Rattle.tb_journal.specs.Frames.{open_gate, closed_gate, IsPayload, ArePayloads, framed, front}
use Rattle.tb_journal.specs.Image.{IsFramed, StandsFor}

-- a gate byte that may be 1: where it is, the frame of this payload stands whole behind it, and then a closed gate
pub record IsDoubtful (payloads : List (List ℕ)) (payload file : List ℕ) : Type 0 where
  pub sizes : ArePayloads payloads
  pub size : IsPayload payload
  pub gate : ℕ
  pub rest : List ℕ
  pub is : file ≡ front payloads ++ gate ∷ rest
  pub whole : gate ≡ open_gate
      → (next : ℕ) × (more : List ℕ) × (rest ≡ framed (length payloads) payload ++ next ∷ more) × (next ≢ open_gate)

-- the file stands for the payloads, with one more or without it
abbrev pub WithOrWithout : List (List ℕ) → List ℕ → List ℕ → Type 0
WithOrWithout payloads payload file = StandsFor payloads file ⊎ StandsFor (payloads ++ payload ∷ []) file

-- the payloads and a closed gate at this place, all of it on the disk
pub record Holds (payloads : List (List ℕ)) (gate : ℕ) (past : Past) : Type 0 where
  pub place : length (front payloads) ≡ gate
  pub file : IsFramed payloads (contents_of past)
  pub synced : IsSynced past

-- the payloads and a gate at this place, and one more payload that may count or not; behind it the gate is at `next`
pub record InDoubt (payloads : List (List ℕ)) (payload : List ℕ) (gate next : ℕ) (past : Past) : Type 0 where
  pub place : length (front payloads) ≡ gate
  pub after : gate + 13 + length payload ≡ next
  pub file : IsDoubtful payloads payload (contents_of past)
  pub images : (c : List ℕ) → MayLeave past c → IsDoubtful payloads payload c

-- the frame of one more payload stands behind the closed gate, all of it on the disk
pub record IsStaged (payloads : List (List ℕ)) (payload : List ℕ) (gate : ℕ) (past : Past) : Type 0 where
  pub place : length (front payloads) ≡ gate
  pub sizes : ArePayloads payloads
  pub size : IsPayload payload
  pub closed : ℕ
  pub more : List ℕ
  pub is : contents_of past ≡ front payloads ++ closed ∷ (framed (length payloads) payload ++ closed_gate ∷ more)
  pub shut : closed ≢ open_gate
  pub synced : IsSynced past

-- so many payloads stand before the gate at this place
abbrev pub HoldsSoMany : ℕ → ℕ → Past → Type 0
HoldsSoMany gate ordinal past = (payloads : List (List ℕ)) → Holds payloads gate past → length payloads ≡ ordinal

-- what a call did to a disk: one that told what had happened to it tells it again, and then P holds of both; one
-- that told nothing tells nothing
pub record Told (old new : DiskState) (P : Past → Past → Type 0) : Type 0 where
  pub silent : old.past ≡ None → new.past ≡ None
  pub told : (before : Past) → old.past ≡ Some before → (now : Past) × (new.past ≡ Some now) × P before now

-- the frame of a payload with this ordinal, and a closed gate, were written behind the gate, and synced
abbrev pub staged_past : ℕ → List ℕ → ℕ → Past → Past
staged_past ordinal payload gate before =
    Then Synced (Then (Wrote (gate + 1) (framed ordinal payload ++ closed_gate ∷ [])) before)

-- the byte 1 was written on the gate, and synced
abbrev pub opened_past : ℕ → Past → Past
opened_past gate before = Then Synced (Then (Wrote gate (open_gate ∷ [])) before)

-- behind a closed gate one more payload may count or not, and all images since stand for the payloads with it or
-- without
abbrev pub Doubts : List ℕ → ℕ → ℕ → Past → Past → Type 0
Doubts payload gate next before now = (payloads : List (List ℕ)) → Holds payloads gate before
    → InDoubt payloads payload gate next now × Leaves (WithOrWithout payloads payload) before now

-- one more payload is staged
abbrev pub Stages : List ℕ → ℕ → Past → Past → Type 0
Stages payload gate before now = (payloads : List (List ℕ)) → Holds payloads gate before
    → IsStaged payloads payload gate now × Leaves (WithOrWithout payloads payload) before now

-- what was staged may count or not
abbrev pub MaybeCounts : List ℕ → ℕ → ℕ → Past → Past → Type 0
MaybeCounts payload gate next before now = (payloads : List (List ℕ)) → IsStaged payloads payload gate before
    → InDoubt payloads payload gate next now × Leaves (WithOrWithout payloads payload) before now

-- what was staged counts
abbrev pub Counts : List ℕ → ℕ → ℕ → Past → Past → Type 0
Counts payload gate next before now = (payloads : List (List ℕ)) → IsStaged payloads payload gate before
    → Holds (payloads ++ payload ∷ []) next now × Leaves (WithOrWithout payloads payload) before now

-- one more payload
abbrev pub Adds : List ℕ → ℕ → ℕ → Past → Past → Type 0
Adds payload gate next before now = (payloads : List (List ℕ)) → Holds payloads gate before
    → Holds (payloads ++ payload ∷ []) next now × Leaves (WithOrWithout payloads payload) before now

-- from then on each crash leaves the new list
abbrev pub Stays : List ℕ → ℕ → Past → Past → Type 0
Stays payload gate before now = (payloads : List (List ℕ)) → Holds payloads gate before
    → (image : List ℕ) → MayLeave now image → StandsFor (payloads ++ payload ∷ []) image

-- each crash meanwhile leaves the old list or the new
abbrev pub LeavesOldOrNew : List ℕ → ℕ → Past → Past → Type 0
LeavesOldOrNew payload gate before now = (payloads : List (List ℕ)) → Holds payloads gate before
    → Leaves (WithOrWithout payloads payload) before now

-- the payload in doubt counts, or it doesn't; then the gate is here
abbrev pub Settles : ℕ → ℕ → ℕ → Bool → Past → Past → Type 0
Settles gate next here counts before now = (payloads : List (List ℕ)) (payload : List ℕ)
    → InDoubt payloads payload gate next before
    → MatchBool counts (Holds (payloads ++ payload ∷ []) here now) (Holds payloads here now)

-- the payload in doubt is in doubt still
abbrev pub StaysInDoubt : ℕ → ℕ → Past → Past → Type 0
StaysInDoubt gate next before now = (payloads : List (List ℕ)) (payload : List ℕ)
    → InDoubt payloads payload gate next before → InDoubt payloads payload gate next now

-- each crash meanwhile leaves the payloads with the one in doubt or without
abbrev pub LeavesInDoubt : ℕ → ℕ → Past → Past → Type 0
LeavesInDoubt gate next before now = (payloads : List (List ℕ)) (payload : List ℕ)
    → InDoubt payloads payload gate next before → Leaves (WithOrWithout payloads payload) before now

-- a write and a sync of which one failed: nothing was done, or the write left a torn file, or it isn't synced
abbrev pub WritesInPart : ℕ → List ℕ → Past → Past → Type 0
WritesInPart place bytes before now =
    (now ≡ before)
    ⊎ ((left : List ℕ) × Torn place (length bytes) (place + length bytes) (contents_of before) left
    × (now ≡ Then (Tore place (length bytes) left) before))
    ⊎ (now ≡ Then (Wrote place bytes) before)

-- the disk failed while a payload was added: the frame was written in part, or it was staged and the gate opened in
-- part
abbrev pub AddsInPart : ℕ → List ℕ → ℕ → Past → Past → Type 0
AddsInPart ordinal payload gate before now =
    WritesInPart (gate + 1) (framed ordinal payload ++ closed_gate ∷ []) before now
    ⊎ WritesInPart gate (open_gate ∷ []) (staged_past ordinal payload gate before) now

-- all was put on the disk, or nothing happened
abbrev pub SyncsOrNot : Past → Past → Type 0
SyncsOrNot before now = (now ≡ before) ⊎ (now ≡ Then Synced before)

-- the journal holds these payloads, with its gate here; or one more may count or not, and the gate is at `next` behind
-- it
abbrev pub KeepsAt : List (List ℕ) → ℕ → Option ℕ → Past → Type 0
KeepsAt payloads gate None past = Holds payloads gate past
KeepsAt payloads gate (Some next) past = (payload : List ℕ) × InDoubt payloads payload gate next past
