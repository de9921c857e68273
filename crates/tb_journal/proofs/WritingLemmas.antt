-- What the device calls of a writer make of its disk.
use Rattle.std.proofs.Common.{◌≡◌, ◌≢◌, ◌≤◌, ◌<◌, ◌⊎◌, inl, inr, ℕ, ◌+◌, ◌-◌, List, [], ◌∷◌, ◌++◌, length, get_or, take, drop, refl, sym, ◌∙◌, ap, subst, arith, Some, None, Option, IfSome, length-append}
use Rattle.std.specs.Prelude.{min}
use Rattle.std.proofs.lemmas.List.{drop_more}
use Rattle.tb_disk.specs.Steps.{Wrote, CutTo, Synced}
use Rattle.tb_disk.specs.Past.{Past, Then, contents_of, Leaves}
use Rattle.tb_disk.specs.Disks.{DiskState, Takes, Fails, FailsToCut, FailsToWrite, Gives, after_step}
use Rattle.tb_disk.proofs.Moments.{Leaves-start, Leaves-both, Leaves-weaker}
use Rattle.tb_journal.specs.Journal.{Told, WritesInPart, SyncsOrNot}
use Rattle.tb_journal.specs.Opening.{Measures}
use Rattle.tb_journal.proofs.ToldLemmas.{Told-both, Told-weaker, told_given, told_after, told_now, still_silent, told_step}
use Rattle.tb_journal.proofs.Calls.{write_fails, two_steps}
use Rattle.tb_journal.specs.declared.form.Form.TheVariants.{Second}
use Rattle.tb_journal.specs.Frames.{head_in, framed, frames, IsPayload}
use Rattle.tb_journal.specs.Writing.{IsBlank, IsOldOrBlank, IsBlankOr, IsWritten, IsSealed, StopsUnsealed, Adds, AddsInPart, Seals, SealsInPart}
use Rattle.tb_journal.specs.WriterSteps.{IsLong, IsShort, IsBroken, IsCut, IsClosed, LeavesOldOrBlank, LeavesBlank, Unseals, Cuts, Titles, Replaces, Closes, SetsSeal, SetsSealInPart, IsPlaceOf}
use Rattle.tb_journal.proofs.Gates.{length-title}
use Rattle.tb_journal.proofs.Spelling.{length-head}
use Rattle.tb_journal.proofs.WritingImages.{title, unseals, unseals_in_part, unsealed_already, cuts, cuts_in_part, titles_in_part, titles_cut, titles_short, end_in_part, closes, adds, behind_head_in_part, seals, seals_in_part}

-- a call that left the bytes as they were
pub told_same : (P : Past → Past → Type 0) (Q : Past → Type 0) (old new : DiskState) → new.past ≡ old.past
    → ((past : Past) → Q past → P past past) → IfSome old.past Q → Told old new P
told_same P Q old new same follows known = record {
  silent = λ none. same ∙ none;
  told = λ before told. (
    before,
    same ∙ told,
    follows before (subst (λ (past : Option Past). IfSome past Q) told known),
  );
}

-- a call on a disk of which was read before
pub told_from : (P : Past → Past → Type 0) (old mid new : DiskState) → mid.past ≡ old.past → Told mid new P
    → Told old new P
told_from P old mid new same told = record {
  silent = λ none. told.silent (same ∙ none);
  told = λ before is. told.told before (same ∙ is);
}

-- the byte in the seal's place was read
pub byte_read : (file into : List ℕ) (n : ℕ) → 16 < length file → n ≡ min 1 (length file - 16)
    → into ≡ take n (drop 16 file) ++ drop n (1 ∷ []) → get_or into 0 0 ≡ get_or file 16 0
byte_read file into n long count is = ap (λ (list : List ℕ). get_or list 0 0) (is
    ∙ (ap (λ (m : ℕ). take m (drop 16 file) ++ drop m (1 ∷ [])) one
    ∙ ap (λ (list : List ℕ). take 1 list ++ drop 1 (1 ∷ [])) (drop_more file 16 0 long)))
  where
    one : n ≡ 1
    one = omega (arith, count, long)

-- the same on a disk
pub seal_read : (old : DiskState) (into : List ℕ) (n : ℕ) → Gives old 16 (1 ∷ []) into n → IfSome old.past IsLong
    → IfSome old.past (λ past. IsLong past × (get_or into 0 0 ≡ get_or (contents_of past) 16 0))
seal_read old into n gives = go old.past gives.count gives.bytes
  where
    go : (past : Option Past) → IfSome past (λ past. n ≡ min 1 (length (contents_of past) - 16))
        → IfSome past (λ past. into ≡ take n (drop 16 (contents_of past)) ++ drop n (1 ∷ []))
        → IfSome past IsLong
        → IfSome past (λ past. IsLong past × (get_or into 0 0 ≡ get_or (contents_of past) 16 0))
    go None count bytes long = tt
    go (Some past) count bytes long = (long, byte_read (contents_of past) into n long.long count bytes)

-- no seal was read
pub no_seal : (old new : DiskState) (into : List ℕ) (n : ℕ) → Gives old 16 (1 ∷ []) into n → new.past ≡ old.past
    → get_or into 0 0 ≢ 1 → IfSome old.past IsLong → Told old new Unseals
no_seal old new into n gives same differs long = told_same Unseals
    (λ past. IsLong past × (get_or into 0 0 ≡ get_or (contents_of past) 16 0)) old new same
    (λ past known. unsealed_already past known.0 (λ one. differs (known.1 ∙ one)))
    (seal_read old into n gives long)

-- the seal was broken
pub seal_put : (old mid new : DiskState) (into : List ℕ) (n : ℕ) → Gives old 16 (1 ∷ []) into n
    → mid.past ≡ old.past → get_or into 0 0 ≡ 1 → IfSome old.past IsLong
    → Told mid new (λ before now. now ≡ Then Synced (Then (Wrote 16 (0 ∷ [])) before)) → Told old new Unseals
seal_put old mid new into n gives same one long put = told_given
    (λ before now. now ≡ Then Synced (Then (Wrote 16 (0 ∷ [])) before))
    (λ past. IsLong past × (get_or into 0 0 ≡ get_or (contents_of past) 16 0)) Unseals old new
    (λ before now is known. subst (Unseals before) (sym is) (unseals before known.0 (sym known.1 ∙ one)))
    (told_from (λ before now. now ≡ Then Synced (Then (Wrote 16 (0 ∷ [])) before)) old mid new same put)
    (seal_read old into n gives long)

-- or in part
pub seal_put_fails : (old mid new : DiskState) (into : List ℕ) (n : ℕ) → Gives old 16 (1 ∷ []) into n
    → mid.past ≡ old.past → get_or into 0 0 ≡ 1 → IfSome old.past IsLong
    → Told mid new (WritesInPart 16 (0 ∷ [])) → Told old new LeavesOldOrBlank
seal_put_fails old mid new into n gives same one long put = told_given (WritesInPart 16 (0 ∷ []))
    (λ past. IsLong past × (get_or into 0 0 ≡ get_or (contents_of past) 16 0)) LeavesOldOrBlank old new
    (λ before now part known. unseals_in_part before known.0 (sym known.1 ∙ one) now part)
    (told_from (WritesInPart 16 (0 ∷ [])) old mid new same put) (seal_read old into n gives long)

-- a cut that failed
pub cut_fails : (old new : DiskState) → FailsToCut 17 old new → IfSome old.past IsBroken
    → Told old new LeavesBlank
cut_fails old new fails known = told_given (λ before now. (now ≡ before) ⊎ (now ≡ Then (CutTo 17) before))
    IsBroken LeavesBlank old new (λ before now part unsealed. cuts_in_part before unsealed now part)
    (go fails.past) known
  where
    go : (new.past ≡ old.past) ⊎ (new.past ≡ after_step (CutTo 17) old.past)
        → Told old new (λ before now. (now ≡ before) ⊎ (now ≡ Then (CutTo 17) before))
    go (inl same) = record { silent = λ none. same ∙ none; told = λ before told. (before, same ∙ told, inl refl) }
    go (inr cut) = record {
      silent = λ none. cut ∙ ap (after_step (CutTo 17)) none;
      told = λ before told. (Then (CutTo 17) before, cut ∙ ap (after_step (CutTo 17)) told, inr refl);
    }

-- a cut that was done and a sync that failed
pub cut_unsynced : (old mid new : DiskState) → Takes (CutTo 17) old mid → Fails mid new
    → IfSome old.past IsBroken → Told old new LeavesBlank
cut_unsynced old mid new takes fails known = told_given (λ before now. now ≡ Then (CutTo 17) before)
    IsBroken LeavesBlank old new (λ before now is unsealed. cuts_in_part before unsealed now (inr is))
    record {
      silent = λ none. fails.past ∙ still_silent (CutTo 17) old mid takes none;
      told = λ before told. (
        Then (CutTo 17) before,
        fails.past ∙ told_step (CutTo 17) old mid takes before told,
        refl,
      );
    } known

-- both were done
pub cut_synced : (old mid new : DiskState) → Takes (CutTo 17) old mid → Takes Synced mid new
    → IfSome old.past IsBroken → Told old new Cuts
cut_synced old mid new takes syncs known = told_given (λ before now. now ≡ Then Synced (Then (CutTo 17) before))
    IsBroken Cuts old new (λ before now is unsealed. subst (Cuts before) (sym is) (cuts before unsealed))
    (two_steps (CutTo 17) old mid new takes syncs) known

-- the title was written
pub title_put : (old new : DiskState) → Told old new (λ before now. now ≡ Then Synced (Then (Wrote 0 title) before))
    → IfSome old.past IsCut → Told old new Titles
title_put old new put known = told_given (λ before now. now ≡ Then Synced (Then (Wrote 0 title) before)) IsCut Titles
    old new (λ before now is cut. subst (Titles before) (sym is) (titles_cut before cut)) put known

pub title_put_fails : (old new : DiskState) → Told old new (WritesInPart 0 title) → IfSome old.past IsCut
    → Told old new LeavesBlank
title_put_fails old new put known = told_given (WritesInPart 0 title) IsCut LeavesBlank
    old new (λ before now part cut. titles_in_part before cut.broken.synced (omega (arith, cut.size)) title now
    (omega (arith, length-title Second)) part) put known

-- and over a short file
pub short_put : (old new : DiskState)
    → Told old new (λ before now. now ≡ Then Synced (Then (Wrote 0 (title ++ 0 ∷ [])) before))
    → IfSome old.past IsShort → Told old new Titles
short_put old new put known = told_given
    (λ before now. now ≡ Then Synced (Then (Wrote 0 (title ++ 0 ∷ [])) before)) IsShort Titles
    old new (λ before now is short. subst (Titles before) (sym is) (titles_short before short)) put known

pub short_put_fails : (old new : DiskState) → Told old new (WritesInPart 0 (title ++ 0 ∷ []))
    → IfSome old.past IsShort → Told old new LeavesBlank
short_put_fails old new put known = told_given (WritesInPart 0 (title ++ 0 ∷ [])) IsShort LeavesBlank
    old new (λ before now part short. titles_in_part before short.synced (omega (arith, short.short)) (title ++ 0 ∷ [])
    now (omega (arith, length-append title (0 ∷ []), length-title Second)) part) put known

-- what is left blank later is left blank or old since the start
pub unseal_then : (P : Past → Past → Type 0) (old mid new : DiskState)
    → ((between now : Past) → P between now → Leaves IsBlank between now)
    → Told old mid Unseals → Told mid new P → Told old new LeavesOldOrBlank
unseal_then P old mid new leaves = Told-both Unseals P LeavesOldOrBlank old mid new
    (λ before between now one two. Leaves-both (IsOldOrBlank (contents_of before)) before between now one.1
    (Leaves-weaker IsBlank (IsOldOrBlank (contents_of before)) between now (λ image blank. inr blank)
    (leaves between now two)))

-- the three steps
pub replaced : (old one two new : DiskState) → Told old one Unseals → Told one two Cuts → Told two new Titles
    → Told old new Replaces
replaced old one two new first second third = Told-both Unseals Titles Replaces old one new
    (λ before between now a b. (
      b.0,
      Leaves-both (IsOldOrBlank (contents_of before)) before between now a.1
          (Leaves-weaker IsBlank (IsOldOrBlank (contents_of before)) between now (λ image blank. inr blank) b.1),
    ))
    first (Told-both Cuts Titles Titles one two new
    (λ before between now a b. (b.0, Leaves-both IsBlank before between now a.1 b.1)) second third)

-- the disk wasn't measured
pub begin_measuring : (old new : DiskState) → Told old new SyncsOrNot → Told old new StopsUnsealed
begin_measuring old new = Told-weaker SyncsOrNot StopsUnsealed old new
    (λ before now part. elim part [
      | inl same ↦ inl same
      | inr synced ↦ inr (subst (λ (past : Past). Leaves (IsOldOrBlank (contents_of before)) (Then Synced before) past)
          (sym synced) (Leaves-start (IsOldOrBlank (contents_of before)) (Then Synced before) (λ image left. inl left)))
    ])

-- what begins behind a sync
pub begin_from : (P : Past → Past → Type 0) (Q : Past → Past → Type 0) (size : ℕ) (old mid new : DiskState)
    → ((before now : Past) → P (Then Synced before) now → Q before now)
    → Told old mid (Measures size) → Told mid new P → Told old new Q
begin_from P Q size old mid new follows = Told-both (Measures size) P Q old mid new
    (λ before between now measures p. follows before now (subst (λ (past : Past). P past now) measures.0 p))

-- less is left
pub blank_is_enough : (old : List ℕ) (before now : Past) → Leaves IsBlank before now
    → Leaves (IsOldOrBlank old) before now
blank_is_enough old before now = Leaves-weaker IsBlank (IsOldOrBlank old) before now (λ image blank. inr blank)

-- the file is long, or short
pub measured_long : (size : ℕ) (old new : DiskState) → 16 < size → Told old new (Measures size)
    → IfSome new.past IsLong
measured_long size old new long = told_after (Measures size) IsLong old new
    (λ before now measures. subst IsLong (sym measures.0)
    (record { synced = λ image left. left; long = omega (arith, long, measures.1) }))

pub measured_short : (size : ℕ) (old new : DiskState) → size ≤ 16 → Told old new (Measures size)
    → IfSome new.past IsShort
measured_short size old new short = told_after (Measures size) IsShort old new
    (λ before now measures. subst IsShort (sym measures.0)
    (record { synced = λ image left. left; short = omega (arith, short, measures.1) }))

-- the head of a frame wasn't written
pub head_fails : (place : ℕ) (bytes : List ℕ) (old new : DiskState) → FailsToWrite place (length bytes) old new
    → Told old new (AddsInPart place)
head_fails place bytes old new fails = Told-weaker (WritesInPart place bytes) (AddsInPart place) old new
    (λ before now part payloads written. end_in_part payloads place before written bytes now part)
    (write_fails place bytes old new fails)

-- the bytes of a frame
head_and : (ordinal : ℕ) (payload head : List ℕ) → head ≡ 1 ∷ head_in Second ordinal (length payload)
    → head ++ payload ≡ 1 ∷ framed ordinal payload
head_and ordinal payload head is = ap (λ (list : List ℕ). list ++ payload) is

-- how many of them stand before the payload
head_size : (size ordinal : ℕ) (head : List ℕ) → head ≡ 1 ∷ head_in Second ordinal size → length head ≡ 13
head_size size ordinal head is = omega (arith, ap length is, length-head Second ordinal size)

-- a frame was written
pub frame_written : (place ordinal : ℕ) (payload head : List ℕ) (old mid new : DiskState) → IsPayload payload
    → head ≡ 1 ∷ head_in Second ordinal (length payload)
    → Takes (Wrote place head) old mid → Takes (Wrote (place + 13) payload) mid new
    → Told old new (Adds payload ordinal place)
frame_written place ordinal payload head old mid new size is one two = record {
  silent =
      λ none. still_silent (Wrote (place + 13) payload) mid new two (still_silent (Wrote place head) old mid one none);
  told = λ before told. (
    Then (Wrote (place + 13) payload) (Then (Wrote place head) before),
    told_step (Wrote (place + 13) payload) mid new two (Then (Wrote place head) before)
        (told_step (Wrote place head) old mid one before told),
    λ payloads written count. adds payloads place before written payload head size
        (head_and (length payloads) payload head (is
        ∙ ap (λ (n : ℕ). 1 ∷ head_in Second n (length payload)) (sym count)))
        (head_size (length payload) ordinal head is),
  );
}

-- a frame was written in part
pub frame_in_part : (place ordinal : ℕ) (payload head : List ℕ) (old mid new : DiskState) → IsPayload payload
    → head ≡ 1 ∷ head_in Second ordinal (length payload)
    → Takes (Wrote place head) old mid → FailsToWrite (place + 13) (length payload) mid new
    → Told old new (AddsInPart place)
frame_in_part place ordinal payload head old mid new size is one fails = Told-both
    (λ before now. now ≡ Then (Wrote place head) before) (WritesInPart (place + 13) payload) (AddsInPart place)
    old mid new
    (λ before between now wrote part payloads written. payload_part payloads before now written
    (subst (λ (past : Past). WritesInPart (place + 13) payload past now) wrote part))
    record {
      silent = λ none. still_silent (Wrote place head) old mid one none;
      told =
          λ before told. (Then (Wrote place head) before, told_step (Wrote place head) old mid one before told, refl);
    }
    (write_fails (place + 13) payload mid new fails)
  where
    payload_part : (payloads : List (List ℕ)) (before now : Past) → IsWritten payloads place before
        → WritesInPart (place + 13) payload (Then (Wrote place head) before) now → Leaves IsBlank before now
    payload_part payloads before now written part = behind_head_in_part payloads place before written payload head now
        part

-- a closed gate was written
pub gate_put : (place : ℕ) (old new : DiskState)
    → Told old new (λ before now. now ≡ Then Synced (Then (Wrote place (0 ∷ [])) before)) → Told old new (Closes place)
gate_put place old new = Told-weaker (λ before now. now ≡ Then Synced (Then (Wrote place (0 ∷ [])) before))
    (Closes place) old new
    (λ before now is payloads written. subst (λ (past : Past). IsClosed payloads past × Leaves IsBlank before past)
    (sym is) (closes payloads place before written))

pub gate_put_fails : (place : ℕ) (old new : DiskState) → Told old new (WritesInPart place (0 ∷ []))
    → Told old new (AddsInPart place)
gate_put_fails place old new = Told-weaker (WritesInPart place (0 ∷ [])) (AddsInPart place) old new
    (λ before now part payloads written. end_in_part payloads place before written (0 ∷ []) now part)

-- what is left blank after the cut is left blank since it
pub cut_then : (old mid new : DiskState) → Told old mid Cuts → Told mid new LeavesBlank → Told old new LeavesBlank
cut_then old mid new = Told-both Cuts LeavesBlank LeavesBlank old mid new
    (λ before between now a b. Leaves-both IsBlank before between now a.1 b)

-- a closed file is long
pub closed_long : (place : ℕ) (old new : DiskState)
    → Told old new (λ before now. now ≡ Then Synced (Then (Wrote place (0 ∷ [])) before))
    → IfSome old.past (IsPlaceOf place) → IfSome new.past (λ past. 16 < length (contents_of past))
closed_long place old new put written = told_now
    (λ before now. now ≡ Then Synced (Then (Wrote place (0 ∷ [])) before)) (IsPlaceOf place)
    (λ past. 16 < length (contents_of past)) old new
    (λ before now is known. long_of (known.0) before now is known.1) put written
  where
    long_of : (payloads : List (List ℕ)) (before now : Past)
        → now ≡ Then Synced (Then (Wrote place (0 ∷ [])) before) → IsWritten payloads place before
        → 16 < length (contents_of now)
    long_of payloads before now is written = let closed = (closes payloads place before written).0 in
        subst (λ (past : Past). 16 < length (contents_of past)) (sym is) (omega (
          arith,
          ap length closed.is,
          length-append title (closed.byte ∷ (frames 0 payloads ++ 0 ∷ [])),
          length-title Second,
        ))

-- the seal was written
pub seal_set : (old new : DiskState)
    → Told old new (λ before now. now ≡ Then Synced (Then (Wrote 16 (1 ∷ [])) before)) → Told old new SetsSeal
seal_set old new = Told-weaker (λ before now. now ≡ Then Synced (Then (Wrote 16 (1 ∷ [])) before)) SetsSeal old new
    (λ before now is payloads closed. subst
    (λ (past : Past). IsSealed payloads past × Leaves (IsBlankOr payloads) before past) (sym is)
    (seals payloads before closed))

pub seal_set_fails : (old new : DiskState) → Told old new (WritesInPart 16 (1 ∷ [])) → Told old new SetsSealInPart
seal_set_fails old new = Told-weaker (WritesInPart 16 (1 ∷ [])) SetsSealInPart old new
    (λ before now part payloads closed. seals_in_part payloads before closed now part)

-- what is blank is blank or more
pub blank_or : (payloads : List (List ℕ)) (before now : Past) → Leaves IsBlank before now
    → Leaves (IsBlankOr payloads) before now
blank_or payloads before now = Leaves-weaker IsBlank (IsBlankOr payloads) before now (λ image blank. inl blank)

-- closed, and seals_then
pub seals_then : (place : ℕ) (old mid new : DiskState) → Told old mid (Closes place) → Told mid new SetsSeal
    → Told old new (Seals place)
seals_then place old mid new = Told-both (Closes place) SetsSeal (Seals place) old mid new
    (λ before between now closes sets payloads written. let one = closes payloads written in
    let two = sets payloads one.0 in
    (two.0, Leaves-both (IsBlankOr payloads) before between now (blank_or payloads before between one.1) two.1))

pub sealed_in_part : (place : ℕ) (old mid new : DiskState) → Told old mid (Closes place) → Told mid new SetsSealInPart
    → Told old new (SealsInPart place)
sealed_in_part place old mid new = Told-both (Closes place) SetsSealInPart (SealsInPart place) old mid new
    (λ before between now closes sets payloads written. let one = closes payloads written in
    Leaves-both (IsBlankOr payloads) before between now (blank_or payloads before between one.1) (sets payloads one.0))

pub closed_in_part : (place : ℕ) (old new : DiskState) → Told old new (AddsInPart place)
    → Told old new (SealsInPart place)
closed_in_part place old new = Told-weaker (AddsInPart place) (SealsInPart place) old new
    (λ before now part payloads written. blank_or payloads before now (part payloads written))
