-- What reads of a link bring.
use Rattle.std.specs.Prelude.{◌≡◌, ◌≢◌, ℕ, ◌+◌, ◌≤◌, ◌⊎◌, List, [], ◌++◌, length, Result, Ok, Err, IfSome}
use Rattle.tb_link.specs.Counts.{Rose, counted}
use Rattle.tb_link.specs.Sources.{SourceState}
use Rattle.tb_gates.specs.Links.{LinkState, Moved}
use Rattle.tb_wire.specs.Cuts.{HoldsNone}
use Rattle.tb_wire.specs.Front.{IsFront}
use Rattle.tb_wire.specs.declared.cutting.Cutting.TheVariants.{Whole, Bad, More}
use Rattle.tb_wire.specs.declared.cutting.HttpRequest.{HttpRequest}
use Rattle.tb_session.specs.declared.end.End.{End}
use Rattle.tb_session.specs.declared.end.End.TheVariants as end
use Rattle.tb_session.specs.declared.inbox.Unread.{Unread}
use Rattle.tb_session.specs.declared.inbox.Unread.TheVariants as unread

-- while a request isn't whole so many bytes of it wait at most: a head has 8,192 and a body 4,096
abbrev pub most_waiting : ℕ
most_waiting = 12288

-- so many bytes of a link are kept at most: those, and what is read at once behind them
abbrev pub most_kept : ℕ
most_kept = 16384

-- of the bytes that are kept so many are used, and they are few
pub record IsKept (used kept : ℕ) : Type 0 where
  pub within : used ≤ kept
  pub few : kept ≤ most_kept

-- the input has ended, where the link tells its bytes
abbrev pub AtEnd : LinkState → Type 0
AtEnd link = IfSome link.source.left (λ left. left ≡ [])

-- one read without a fault
pub record ReadsOnce (old new : SourceState) : Type 0 where
  pub one_read : new.reads ≡ counted old.reads
  pub no_fault : new.faults ≡ old.faults

-- one read that failed
pub record FailsOnce (old new : SourceState) : Type 0 where
  pub one_read : new.reads ≡ counted old.reads
  pub rose : Rose old.faults new.faults

-- What came is nothing only at the end of the input. At a fault nothing came and it was counted, and where memory is
-- wanting the link wasn't read.
abbrev pub Brings : LinkState → LinkState → List ℕ → Result ℕ Unread → Type 0
Brings old new piece (Ok count) =
    (count ≡ length piece) × (count ≡ 0 → AtEnd new) × ReadsOnce old.source new.source
Brings old new piece (Err unread.ReadFault) = (piece ≡ []) × FailsOnce old.source new.source
Brings old new piece (Err unread.OutOfMemory) = (piece ≡ []) × (new ≡ old)

-- one read brought a piece behind the bytes that wait
pub record Fills (old new : LinkState) (before after : List ℕ) (result : Result ℕ Unread) : Type 0 where
  pub piece : List ℕ
  pub moved : Moved old new piece []
  pub grown : after ≡ before ++ piece
  pub brings : Brings old new piece result

-- Reads that brought these bytes to those that waited: none failed, each brought at least one byte, and before the last
-- one what had come was no whole request, nor at fault.
pub record NeedsReads (old new : SourceState) (waiting read : List ℕ) : Type 0 where
  pub before : List ℕ
  pub last : List ℕ
  pub read_is : read ≡ before ++ last
  pub some : 1 ≤ length last
  pub needed : IsFront (waiting ++ before) More
  pub reads : new.reads ≤ old.reads + length before + 1
  pub no_fault : new.faults ≡ old.faults

-- nothing was read ahead: the link is as it was, or each read was needed
abbrev pub ReadsNoneAhead : LinkState → LinkState → List ℕ → List ℕ → Type 0
ReadsNoneAhead old new waiting read =
    ((read ≡ []) × (new ≡ old)) ⊎ NeedsReads old.source new.source waiting read

-- and then one read more found the end of the input
abbrev pub FindsEnd : LinkState → LinkState → List ℕ → List ℕ → Type 0
FindsEnd old new waiting read =
    (before : LinkState) × ReadsNoneAhead old before waiting read × ReadsOnce before.source new.source

-- or failed
abbrev pub FindsFault : LinkState → LinkState → List ℕ → List ℕ → Type 0
FindsFault old new waiting read =
    (before : LinkState) × ReadsNoneAhead old before waiting read × FailsOnce before.source new.source

-- the reads up to a request, or up to the end of the link
abbrev pub ReadsUpTo : Result HttpRequest End → LinkState → LinkState → List ℕ → List ℕ → Type 0
ReadsUpTo (Err end.EndOfInput) old new waiting read = FindsEnd old new waiting read
ReadsUpTo (Err end.CutShort) old new waiting read = FindsEnd old new waiting read
ReadsUpTo (Err end.ReadFault) old new waiting read = FindsFault old new waiting read
ReadsUpTo other old new waiting read = ReadsNoneAhead old new waiting read

-- what is found at the front of the bytes that wait, or how the link ended
abbrev pub Finds : LinkState → LinkState → List ℕ → Result HttpRequest End → Type 0
Finds old new waiting (Ok request) = IsFront waiting (Whole request)
Finds old new waiting (Err end.EndOfInput) = (waiting ≡ []) × AtEnd new
Finds old new waiting (Err end.CutShort) = (waiting ≢ []) × IsFront waiting More × AtEnd new
Finds old new waiting (Err (end.BadRequest code)) = IsFront waiting (Bad code)
Finds old new waiting (Err end.ReadFault) = IsFront waiting More × Rose old.source.faults new.source.faults
Finds old new waiting (Err end.OutOfMemory) = HoldsNone waiting
Finds old new waiting (Err end.Asked) = ⊥
Finds old new waiting (Err end.Turns) = ⊥
Finds old new waiting (Err end.WriteFault) = ⊥

-- these bytes were read until there was a whole request, or the link ended
pub record Receives (old new : LinkState) (before after : List ℕ) (result : Result HttpRequest End) : Type 0 where
  pub read : List ℕ
  pub moved : Moved old new read []
  pub grown : after ≡ before ++ read
  pub finds : Finds old new after result
  pub none_ahead : ReadsUpTo result old new before read
