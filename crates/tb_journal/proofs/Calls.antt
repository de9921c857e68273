-- What the device calls of a journal make of its disk.
use Rattle.std.proofs.Common.{◌≡◌, ◌≤◌, inl, inr, ℕ, ◌+◌, List, [], ◌∷◌, ◌++◌, length, refl, sym, ◌∙◌, ap, subst, arith, append_assoc, Some, None, Option, IfSome, drop}
use Rattle.std.specs.Prelude.{Result, Ok, Err, OnOk, OnErr}
use Rattle.tb_disk.specs.Steps.{Step, Wrote, Tore, Synced, Torn}
use Rattle.tb_disk.specs.Past.{Past, Then, contents_of, MayLeave, Follows, Leaves}
use Rattle.tb_disk.specs.Disks.{DiskState, Takes, Fails, FailsToWrite, Reaches, after_step}
use Rattle.tb_disk.proofs.Noting.{length-over}
use Rattle.tb_disk.proofs.Moments.{Leaves-start, Leaves-step, Leaves-both}
use Rattle.tb_journal.specs.declared.form.Form.TheVariants.{Second}
use Rattle.tb_journal.specs.Frames.{framed, front, IsPayload}
use Rattle.tb_journal.specs.Image.{IsFramed, StandsFor}
use Rattle.tb_journal.specs.Journal.{IsDoubtful, WithOrWithout, Holds, InDoubt, IsStaged, Told, Doubts, Stages, MaybeCounts, Counts, Adds, HoldsSoMany, WritesInPart, AddsInPart, staged_past, opened_past}
use Rattle.tb_journal.proofs.ToldLemmas.{Told-both, Told-weaker, told_given, still_silent, told_step}
use Rattle.tb_journal.proofs.Spelling.{length-framed}
use Rattle.tb_journal.proofs.Gates.{IsFramedIn-stands, doubtful_stands, closed_doubtful, torn_behind, written_behind, torn_gate, written_gate, front_push, length-front_push, ArePayloads-push}

-- bytes are written behind the gate
abbrev pub behind_gate : List ℕ → ℕ → Past → Past
behind_gate block gate before = Then (Wrote (gate + 1) block) before

module _ (payloads : List (List ℕ)) (payload : List ℕ) (gate : ℕ) (before : Past) (size : IsPayload payload)
    (holds : Holds payloads gate before) where
  -- each image of a journal at rest, and of one that is written behind its gate
  image : (file : List ℕ) → MayLeave before file → IsFramed payloads file
  image file left = subst (λ (list : List ℕ). IsFramed payloads list) (sym (holds.synced file left)) holds.file

  -- what a crash leaves of a write behind the gate
  torn_image : (count longest : ℕ) (file : List ℕ) → Follows (Torn (gate + 1) count longest) (MayLeave before) file
      → IsFramed payloads file
  torn_image count longest file from = torn_behind payloads gate holds.place count longest from.0 file
      (image from.0 from.1) from.2

  -- a framed file stands for the payloads without the new one
  without : (file : List ℕ) → IsFramed payloads file → WithOrWithout payloads payload file
  without file f = inl (IsFramedIn-stands Second payloads file f)

  -- what a crash before the first call leaves
  at_start : Leaves (WithOrWithout payloads payload) before before
  at_start = Leaves-start (WithOrWithout payloads payload) before (λ file left. without file (image file left))

  -- nothing was written: the payload doesn't count
  unwritten : InDoubt payloads payload gate (gate + 13 + length payload) before
  unwritten = record {
    place = holds.place;
    after = refl;
    file = closed_doubtful payloads payload
        (contents_of before) size holds.file;
    images = λ file left. closed_doubtful payloads payload file size
        (image file left);
  }

  -- a failed write behind the gate
  torn : (count : ℕ) (left : List ℕ) → Torn (gate + 1) count (gate + 1 + count) (contents_of before) left
      → InDoubt payloads payload gate (gate + 13 + length payload) (Then (Tore (gate + 1) count left) before)
      × Leaves (WithOrWithout payloads payload) before (Then (Tore (gate + 1) count left) before)
  torn count left tears = (
    record {
      place = holds.place;
      after = refl;
      file = closed_doubtful payloads payload left size (torn_behind payloads gate holds.place count (gate + 1 + count)
          (contents_of before) left holds.file tears);
      images = λ file from. closed_doubtful payloads payload file size (torn_image count (length left) file from);
    },
    Leaves-step (WithOrWithout payloads payload) before before (Tore (gate + 1) count left) at_start
        (λ file from. without file (torn_image count (length left) file from)),
  )

  -- bytes are written behind the gate, and not yet on the disk
  wrote_image : (block file : List ℕ) → MayLeave (behind_gate block gate before) file → IsFramed payloads file
  wrote_image block file from = torn_image (length block) (gate + 1 + length block) file from

  -- the file with the bytes behind its gate
  wrote_file : (block : List ℕ) → IsFramed payloads (contents_of (behind_gate block gate before))
  wrote_file block = record {
    sizes = holds.file.sizes;
    gate = holds.file.gate;
    rest = block ++ drop (gate + 1 + length block) (contents_of before);
    is = written_behind payloads gate holds.place block (contents_of before) holds.file;
    closed = holds.file.closed;
  }

  -- what a crash leaves up to the end of the first write
  wrote_leaves : (block : List ℕ) → Leaves (WithOrWithout payloads payload) before (behind_gate block gate before)
  wrote_leaves block = Leaves-step (WithOrWithout payloads payload) before before (Wrote (gate + 1) block) at_start
      (λ file from. without file (wrote_image block file from))

  -- the bytes are written: the payload is in doubt
  wrote : (block : List ℕ) → InDoubt payloads payload gate (gate + 13 + length payload) (behind_gate block gate before)
  wrote block = record {
    place = holds.place;
    after = refl;
    file = closed_doubtful payloads payload (contents_of (behind_gate block gate before)) size (wrote_file block);
    images = λ file from. closed_doubtful payloads payload file size (wrote_image block file from);
  }

  -- the frame is on the disk
  staged : (ordinal : ℕ) → length payloads ≡ ordinal
      → IsStaged payloads payload gate (Then Synced (behind_gate (framed ordinal payload ++ 0 ∷ []) gate before))
  staged ordinal count =
      let block : List ℕ = framed ordinal payload ++ 0 ∷ [] in
      let more : List ℕ = drop (gate + 1 + length block) (contents_of before) in
      record {
        place = holds.place;
        sizes = holds.file.sizes;
        size = size;
        closed = holds.file.gate;
        more = more;
        is = written_behind payloads gate holds.place block (contents_of before) holds.file
            ∙ ap (λ (list : List ℕ). front payloads ++ holds.file.gate ∷ list)
            (append_assoc (framed ordinal payload) (0 ∷ []) more
            ∙ ap (λ (n : ℕ). framed n payload ++ 0 ∷ more) (sym count));
        shut = holds.file.closed;
        synced = λ file left. left;
      }

  -- what a crash leaves up to the end of the first sync
  staged_leaves : (block : List ℕ)
      → Leaves (WithOrWithout payloads payload) before (Then Synced (behind_gate block gate before))
  staged_leaves block = Leaves-step (WithOrWithout payloads payload) before (behind_gate block gate before) Synced
      (wrote_leaves block)
      (λ file left. without file (subst (λ (list : List ℕ). IsFramed payloads list) (sym left) (wrote_file block)))

-- the first write failed
pub first_fails : (payload block : List ℕ) (gate : ℕ) (old new : DiskState) → IsPayload payload
    → FailsToWrite (gate + 1) (length block) old new
    → Told old new (Doubts payload gate (gate + 13 + length payload))
first_fails payload block gate old new size fails = elim fails.past [
  | inl same ↦ record {
    silent = λ none. same ∙ none;
    told = λ before told. (
      before,
      same ∙ told,
      λ payloads holds. (
        unwritten payloads payload gate before size holds,
        at_start payloads payload gate before size holds,
      ),
    );
  }
  | inr left ↦ record {
    silent = λ none. left.2 ∙ ap (after_step (Tore (gate + 1) (length block) left.0)) none;
    told = λ before told. (
      Then (Tore (gate + 1) (length block) left.0) before,
      left.2 ∙ ap (after_step (Tore (gate + 1) (length block) left.0)) told,
      λ payloads holds. torn payloads payload gate before size holds (length block) left.0
          (subst (λ (past : Option Past). IfSome past (λ was. Torn (gate + 1) (length block)
          (gate + 1 + length block) (contents_of was) left.0)) told left.1),
    );
  }
]

-- the first sync failed
pub first_sync_fails : (payload block : List ℕ) (gate : ℕ) (old mid new : DiskState) → IsPayload payload
    → Takes (Wrote (gate + 1) block) old mid → Fails mid new
    → Told old new (Doubts payload gate (gate + 13 + length payload))
first_sync_fails payload block gate old mid new size writes fails = record {
  silent = λ none. fails.past ∙ still_silent (Wrote (gate + 1) block) old mid writes none;
  told = λ before told. (
    behind_gate block gate before,
    fails.past ∙ told_step (Wrote (gate + 1) block) old mid writes before told,
    λ payloads holds. (
      wrote payloads payload gate before size holds block,
      wrote_leaves payloads payload gate before size holds block,
    ),
  );
}

-- the steps of a write and a sync that were done
pub two_steps : (step : Step) (old mid new : DiskState) → Takes step old mid → Takes Synced mid new
    → Told old new (λ before now. now ≡ Then Synced (Then step before))
two_steps step old mid new writes syncs = record {
  silent = λ none. still_silent Synced mid new syncs (still_silent step old mid writes none);
  told = λ before told. (
    Then Synced (Then step before),
    told_step Synced mid new syncs (Then step before)
        (told_step step old mid writes before told),
    refl,
  );
}

-- both were done
pub first_syncs : (payload : List ℕ) (gate ordinal : ℕ) (old mid new : DiskState) → IsPayload payload
    → IfSome old.past (HoldsSoMany gate ordinal)
    → Takes (Wrote (gate + 1) (framed ordinal payload ++ 0 ∷ [])) old mid → Takes Synced mid new
    → Told old new (Stages payload gate)
first_syncs payload gate ordinal old mid new size many writes syncs =
    let block : List ℕ = framed ordinal payload ++ 0 ∷ [] in
    told_given (λ before now. now ≡ Then Synced (behind_gate block gate before)) (HoldsSoMany gate ordinal)
    (Stages payload gate) old new
    (λ before now is counted payloads holds. (
      subst (λ (past : Past). IsStaged payloads payload gate past) (sym is)
          (staged payloads payload gate before size holds ordinal (counted payloads holds)),
      subst (λ (past : Past). Leaves (WithOrWithout payloads payload) before past) (sym is)
          (staged_leaves payloads payload gate before size holds block),
    )) (two_steps (Wrote (gate + 1) block) old mid new writes syncs) many

-- the gate is open, and not yet on the disk
abbrev pub opened : ℕ → Past → Past
opened gate before = Then (Wrote gate (1 ∷ [])) before

module _ (payloads : List (List ℕ)) (payload : List ℕ) (gate : ℕ) (before : Past)
    (staged : IsStaged payloads payload gate before) where
  -- a staged file is framed
  shut_file : IsFramed payloads (contents_of before)
  shut_file = record {
    sizes = staged.sizes;
    gate = staged.closed;
    rest = framed (length payloads) payload ++ 0 ∷ staged.more;
    is =
        staged.is;
    closed = staged.shut;
  }

  -- what a crash leaves of a staged file
  staged_image : (file : List ℕ) → MayLeave before file → IsDoubtful payloads payload file
  staged_image file left = closed_doubtful payloads payload file staged.size
      (subst (λ (list : List ℕ). IsFramed payloads list) (sym (staged.synced file left)) shut_file)

  -- what a crash leaves of a write of the gate
  gate_image : (longest : ℕ) (file : List ℕ) → Follows (Torn gate 1 longest) (MayLeave before) file
      → IsDoubtful payloads payload file
  gate_image longest file from = torn_gate payloads gate staged.place payload staged.more from.0 file staged.closed
      longest staged.sizes staged.size (staged.synced from.0 from.1 ∙ staged.is) from.2

  -- what a crash before the second write leaves
  shut_start : Leaves (WithOrWithout payloads payload) before before
  shut_start = Leaves-start (WithOrWithout payloads payload) before
      (λ file left. doubtful_stands payloads payload file (staged_image file left))

  -- the gate wasn't written: the payload is in doubt
  still_shut : InDoubt payloads payload gate (gate + 13 + length payload) before
  still_shut = record {
    place = staged.place;
    after = refl;
    file = closed_doubtful payloads payload
        (contents_of before) staged.size shut_file;
    images = staged_image;
  }

  -- a failed write of the gate
  torn_open : (left : List ℕ) → Torn gate 1 (gate + 1) (contents_of before) left
      → InDoubt payloads payload gate (gate + 13 + length payload) (Then (Tore gate 1 left) before)
      × Leaves (WithOrWithout payloads payload) before (Then (Tore gate 1 left) before)
  torn_open left tears = (
    record {
      place = staged.place;
      after = refl;
      file = torn_gate payloads gate staged.place payload staged.more (contents_of before) left staged.closed
          (gate + 1) staged.sizes staged.size staged.is tears;
      images = λ file from. gate_image (length left) file from;
    },
    Leaves-step (WithOrWithout payloads payload) before before (Tore gate 1 left) shut_start
        (λ file from. doubtful_stands payloads payload file (gate_image (length left) file from)),
  )

  -- the file with its gate open
  opened_file : contents_of (opened gate before)
      ≡ front payloads ++ 1 ∷ (framed (length payloads) payload ++ 0 ∷ staged.more)
  opened_file = written_gate payloads gate staged.place payload staged.more (contents_of before) staged.closed staged.is

  -- what a crash leaves up to the end of the second write
  opened_leaves : Leaves (WithOrWithout payloads payload) before (opened gate before)
  opened_leaves = Leaves-step (WithOrWithout payloads payload) before before (Wrote gate (1 ∷ [])) shut_start
      (λ file from. doubtful_stands payloads payload file (gate_image (gate + 1) file from))

  -- the gate is written: the payload is in doubt
  opened_doubt : InDoubt payloads payload gate (gate + 13 + length payload) (opened gate before)
  opened_doubt = record {
    place = staged.place;
    after = refl;
    file = record {
      sizes = staged.sizes;
      size = staged.size;
      gate = 1;
      rest = framed (length payloads) payload ++ 0 ∷ staged.more;
      is =
          opened_file;
      whole = λ _. (0, staged.more, refl, λ is. omega arith);
    };
    images = λ file from. gate_image (gate + 1) file from;
  }

  -- the file with its gate open stands for one payload more
  added_file : IsFramed (payloads ++ payload ∷ []) (contents_of (opened gate before))
  added_file = record {
    sizes = ArePayloads-push payloads payload staged.sizes staged.size;
    gate = 0;
    rest =
        staged.more;
    is = opened_file ∙ sym (front_push Second payloads payload (0 ∷ staged.more));
    closed = λ is. omega arith;
  }

  -- the gate is on the disk: the payload is added
  added : Holds (payloads ++ payload ∷ []) (gate + 13 + length payload) (Then Synced (opened gate before))
  added = record {
    place = omega (
      arith,
      length-front_push Second payloads payload,
      length-framed Second (length payloads) payload,
      staged.place,
    );
    file = added_file;
    synced =
        λ file left. left;
  }

  -- what a crash leaves up to the end of the second sync
  added_leaves : Leaves (WithOrWithout payloads payload) before (Then Synced (opened gate before))
  added_leaves = Leaves-step (WithOrWithout payloads payload) before (opened gate before) Synced opened_leaves
      (λ file left. inr (IsFramedIn-stands Second (payloads ++ payload ∷ []) file
      (subst (λ (list : List ℕ). IsFramed (payloads ++ payload ∷ []) list) (sym left) added_file)))

-- the second write failed
pub second_fails : (payload : List ℕ) (gate : ℕ) (old new : DiskState) → FailsToWrite gate 1 old new
    → Told old new (MaybeCounts payload gate (gate + 13 + length payload))
second_fails payload gate old new fails = elim fails.past [
  | inl same ↦ record {
    silent = λ none. same ∙ none;
    told = λ before told. (
      before,
      same ∙ told,
      λ payloads staged. (
        still_shut payloads payload gate before staged,
        shut_start payloads payload gate before staged,
      ),
    );
  }
  | inr left ↦ record {
    silent = λ none. left.2 ∙ ap (after_step (Tore gate 1 left.0)) none;
    told = λ before told. (
      Then (Tore gate 1 left.0) before,
      left.2 ∙ ap (after_step (Tore gate 1 left.0)) told,
      λ payloads staged. torn_open payloads payload gate before staged left.0
          (subst (λ (past : Option Past). IfSome past (λ was. Torn gate 1 (gate + 1) (contents_of was) left.0)) told
          left.1),
    );
  }
]

-- the second sync failed
pub second_sync_fails : (payload : List ℕ) (gate : ℕ) (old mid new : DiskState) → Takes (Wrote gate (1 ∷ [])) old mid
    → Fails mid new → Told old new (MaybeCounts payload gate (gate + 13 + length payload))
second_sync_fails payload gate old mid new writes fails = record {
  silent = λ none. fails.past ∙ still_silent (Wrote gate (1 ∷ [])) old mid writes none;
  told = λ before told. (
    opened gate before,
    fails.past ∙ told_step (Wrote gate (1 ∷ [])) old mid writes before told,
    λ payloads staged. (
      opened_doubt payloads payload gate before staged,
      opened_leaves payloads payload gate before staged,
    ),
  );
}

-- both were done
pub second_syncs : (payload : List ℕ) (gate : ℕ) (old mid new : DiskState) → Takes (Wrote gate (1 ∷ [])) old mid
    → Takes Synced mid new → Told old new (Counts payload gate (gate + 13 + length payload))
second_syncs payload gate old mid new writes syncs = record {
  silent = λ none. still_silent Synced mid new syncs (still_silent (Wrote gate (1 ∷ [])) old mid writes none);
  told = λ before told. (
    Then Synced (opened gate before),
    told_step Synced mid new syncs (opened gate before) (told_step (Wrote gate (1 ∷ [])) old mid writes before told),
    λ payloads staged. (added payloads payload gate before staged, added_leaves payloads payload gate before staged),
  );
}

-- a write that failed
pub write_fails : (place : ℕ) (bytes : List ℕ) (old new : DiskState) → FailsToWrite place (length bytes) old new
    → Told old new (WritesInPart place bytes)
write_fails place bytes old new fails = elim fails.past [
  | inl same ↦ record {
    silent = λ none. same ∙ none;
    told = λ before told. (before, same ∙ told, inl refl);
  }
  | inr left ↦ record {
    silent = λ none. left.2 ∙ ap (after_step (Tore place (length bytes) left.0)) none;
    told = λ before told. (
      Then (Tore place (length bytes) left.0) before,
      left.2 ∙ ap (after_step (Tore place (length bytes) left.0)) told,
      inr (inl (
        left.0,
        subst (λ (past : Option Past). IfSome past (λ was. Torn place (length bytes) (place + length bytes)
            (contents_of was) left.0)) told left.1,
        refl,
      )),
    );
  }
]

-- a write that was done and a sync that failed
pub write_unsynced : (place : ℕ) (bytes : List ℕ) (old mid new : DiskState) → Takes (Wrote place bytes) old mid
    → Fails mid new → Told old new (WritesInPart place bytes)
write_unsynced place bytes old mid new writes fails = record {
  silent = λ none. fails.past ∙ still_silent (Wrote place bytes) old mid writes none;
  told = λ before told. (
    Then (Wrote place bytes) before,
    fails.past ∙ told_step (Wrote place bytes) old mid writes before told,
    inr (inr refl),
  );
}

-- the frame was written in part
pub staged_in_part : (payload : List ℕ) (ordinal gate : ℕ) (old new : DiskState)
    → Told old new (WritesInPart (gate + 1) (framed ordinal payload ++ 0 ∷ []))
    → Told old new (AddsInPart ordinal payload gate)
staged_in_part payload ordinal gate old new =
    Told-weaker (WritesInPart (gate + 1) (framed ordinal payload ++ 0 ∷ [])) (AddsInPart ordinal payload gate) old new
    (λ before now part. inl part)

-- the frame was staged, and the gate opened in part
pub opened_in_part : (payload : List ℕ) (ordinal gate : ℕ) (old mid new : DiskState)
    → Told old mid (λ before now. now ≡ staged_past ordinal payload gate before)
    → Told mid new (WritesInPart gate (1 ∷ []))
    → Told old new (AddsInPart ordinal payload gate)
opened_in_part payload ordinal gate old mid new =
    Told-both (λ before now. now ≡ staged_past ordinal payload gate before) (WritesInPart gate (1 ∷ []))
    (AddsInPart ordinal payload gate) old mid new
    (λ before between now staged part. inr (subst (λ (past : Past). WritesInPart gate (1 ∷ []) past now) staged part))

-- the gate is there still when the frame is staged
pub reaches_staged : (payload : List ℕ) (ordinal : ℕ) (old new : DiskState) (gate : ℕ) → Reaches old (gate + 1)
    → Told old new (λ before now. now ≡ staged_past ordinal payload gate before) → Reaches new gate
reaches_staged payload ordinal old new gate reaches staged = go old.past refl reaches
  where
    go : (past : Option Past) → old.past ≡ past → IfSome past (λ q. gate + 1 ≤ length (contents_of q))
        → Reaches new gate
    go None is k = subst (λ (o : Option Past). IfSome o (λ q. gate ≤ length (contents_of q)))
        (sym (staged.silent is)) tt
    go (Some past) is k = (let s = staged.told past is in
        let long = length-over (gate + 1) (framed ordinal payload ++ 0 ∷ []) (contents_of past) k in
        let reach : gate ≤ length (contents_of (staged_past ordinal payload gate past)) = omega (arith, long) in
        subst (λ (o : Option Past). IfSome o (λ q. gate ≤ length (contents_of q))) (sym (s.1 ∙ ap Some s.2)) reach)

-- what follows at Ok
pub on_ok_map : {A E X Y : Type 0} (result : Result A E) → (X → Y) → OnOk result X → OnOk result Y
on_ok_map (Ok value) follows known = follows known
on_ok_map (Err error) follows known = tt

-- what follows at Err
pub on_err_map : {A E X Y : Type 0} (result : Result A E) → (X → Y) → OnErr result X → OnErr result Y
on_err_map (Ok value) follows known = tt
on_err_map (Err error) follows known = follows known

-- what holds anyhow holds at Err
pub on_err : {A E Y : Type 0} (result : Result A E) → Y → OnErr result Y
on_err (Ok value) known = tt
on_err (Err error) known = known

-- the first two calls and the last two
pub stages_counts : (payload : List ℕ) (gate next : ℕ) (old mid new : DiskState) → Told old mid (Stages payload gate)
    → Told mid new (Counts payload gate next) → Told old new (Adds payload gate next)
stages_counts payload gate next old mid new stages counts = Told-both (Stages payload gate) (Counts payload gate next)
    (Adds payload gate next) old mid new
    (λ before between now stages opens payloads holds. let first = stages payloads holds in
    let second = opens payloads first.0 in (
      second.0,
      Leaves-both
          (WithOrWithout payloads payload) before between now first.1 second.1,
    )) stages counts

-- the first two calls, and the last two of which one failed
pub stages_maybe : (payload : List ℕ) (gate next : ℕ) (old mid new : DiskState) → Told old mid (Stages payload gate)
    → Told mid new (MaybeCounts payload gate next) → Told old new (Doubts payload gate next)
stages_maybe payload gate next old mid new stages counts = Told-both (Stages payload gate)
    (MaybeCounts payload gate next) (Doubts payload gate next) old mid new
    (λ before between now stages opens payloads holds. let first = stages payloads holds in
    let second = opens payloads first.0 in (
      second.0,
      Leaves-both
          (WithOrWithout payloads payload) before between now first.1 second.1,
    )) stages counts

-- the four steps
pub four_steps : (payload : List ℕ) (ordinal gate : ℕ) (old mid new : DiskState)
    → Told old mid (λ before now. now ≡ staged_past ordinal payload gate before)
    → Told mid new (λ before now. now ≡ opened_past gate before)
    → Told old new (λ before now. now ≡ opened_past gate (staged_past ordinal payload gate before))
four_steps payload ordinal gate old mid new first second = Told-both
    (λ before now. now ≡ staged_past ordinal payload gate before)
    (λ before now. now ≡ opened_past gate before) (λ before now. now ≡ opened_past gate
    (staged_past ordinal payload gate before)) old mid new
    (λ before between now staged opened. opened ∙ ap (opened_past gate) staged) first second

-- what an added payload leaves on crashes
pub held_stays : (payloads : List (List ℕ)) (gate : ℕ) (past : Past) → Holds payloads gate past → (file : List ℕ)
    → MayLeave past file → StandsFor payloads file
held_stays payloads gate past holds file left = IsFramedIn-stands Second payloads file
    (subst (λ (list : List ℕ). IsFramed payloads list) (sym (holds.synced file left)) holds.file)
