-- What the device calls of an opening make of its disk.
use Rattle.std.proofs.Common.{◌≡◌, ◌⊎◌, inl, inr, ℕ, ◌+◌, ◌<◌, ◌≤◌, List, [], ◌∷◌, ◌++◌, length, drop, refl, sym, ◌∙◌, ap, subst, arith, length-append, length-drop, Err, IfSome, codes}
use Rattle.std.proofs.lemmas.List.{append-nil}
use Rattle.tb_disk.specs.Steps.{Wrote, Tore, Synced, Torn}
use Rattle.tb_disk.specs.Past.{Past, Then, contents_of, MayLeave, Follows}
use Rattle.tb_disk.specs.Disks.{DiskState, Takes, Fails, HasLength}
use Rattle.tb_disk.proofs.Moments.{Leaves-start, Leaves-step}
use Rattle.tb_journal.specs.declared.form.Form.TheVariants.{Second}
use Rattle.tb_journal.specs.Frames.{title_of, header, frames, front}
use Rattle.tb_journal.specs.Image.{IsFramed, StandsFor}
use Rattle.tb_journal.specs.Journal.{Holds, Told, SyncsOrNot}
use Rattle.tb_journal.specs.Opening.{StandsAsWell, Measures, Finds, FindsSoMany, Opens, BreaksOff, IsHarmless, empty_journal, made_past, MadeInPart}
use Rattle.tb_journal.specs.Places.{EndsAt, ReadsTo, ReadsSome}
use Rattle.tb_journal.specs.Answers.{IsTrueOf, LeavesRefused}
use Rattle.tb_journal.specs.declared.fault.JournalFault.{JournalFault}
use Rattle.tb_journal.specs.declared.fault.JournalFault.TheVariants.{DiskFault, NotAJournal, Unsealed, Damaged, OutOfMemory}
use Rattle.tb_journal.proofs.Gates.{length-header, IsFramedIn-stands}
use Rattle.tb_journal.proofs.Spelling.{StandsIn-one}
use Rattle.tb_journal.proofs.ToldLemmas.{Told-both, Told-weaker, told_after, told_known, told_step, still_silent}

-- what an opening may leave on crashes
abbrev pub Old : Past → List ℕ → Type 0
Old before image = MayLeave before image ⊎ StandsAsWell (contents_of before) image

-- the same file stands for the same
same_stands : (old new : List ℕ) → new ≡ old → StandsAsWell old new
same_stands old new same payloads stands = subst (λ (list : List ℕ). StandsFor payloads list) (sym same) stands

-- nothing was done
pub harmless_start : (before : Past) → IsHarmless before before
harmless_start before = record {
  contents = λ payloads stands. stands;
  images = Leaves-start (Old before) before
      (λ image left. inl left);
}

-- a sync is harmless
pub harmless_synced : (before : Past) → IsHarmless before (Then Synced before)
harmless_synced before = record {
  contents = λ payloads stands. stands;
  images = Leaves-step (Old before) before before Synced (harmless_start before).images
      (λ image left. inr (same_stands (contents_of before) image left));
}

-- an empty journal has 18 bytes
pub length-empty : length empty_journal ≡ 18
length-empty = omega (arith, length-append (header) (0 ∷ []), length-header Second)

-- files of at most 18 bytes stand for the same
short_stands : (old new : List ℕ) → length old ≤ 18 → length new ≤ 18 → StandsAsWell old new
short_stands old new short_old short_new payloads (inl stands) = inl (short_new, stands.1)
short_stands old new short_old short_new payloads (inr stands) = absurd (omega (arith, stands.0))

-- a list of no length is empty
nothing_left : (list : List ℕ) → 0 ≡ length list → list ≡ []
nothing_left [] is = refl
nothing_left (x ∷ list) is = absurd (omega (arith, is))

module _ (before : Past) (short : length (contents_of before) ≤ 18) where
  -- what is left of a file of at most 18 bytes by a write of 18
  short_image : (longest : ℕ) → longest ≤ 18 → (image : List ℕ)
      → Follows (Torn 0 18 longest) (MayLeave (Then Synced before)) image → length image ≤ 18
  short_image longest within image from = let same = ap length from.1 in omega (arith, from.2.no_longer, same)

  -- a failed write of an empty journal is harmless
  pub torn_harmless : (left : List ℕ) → Torn 0 18 18 (contents_of before) left
      → IsHarmless before (Then (Tore 0 18 left) (Then Synced before))
  torn_harmless left tears =
      let short_left : length left ≤ 18 = omega (arith, tears.no_longer, length-empty) in
      record {
        contents = short_stands (contents_of before) left short short_left;
        images = Leaves-step (Old before) before (Then Synced before) (Tore 0 18 left) (harmless_synced before).images
            (λ image from. inr (short_stands (contents_of before) image short
            (short_image (length left) short_left image from)));
      }

  -- a written empty journal is the whole file
  pub written_is : contents_of (Then (Wrote 0 empty_journal) (Then Synced before)) ≡ empty_journal
  written_is = ap (λ (list : List ℕ). empty_journal ++ list) (nothing_left
      (drop (0 + length empty_journal) (contents_of before)) (omega
      (arith, length-drop (0 + length empty_journal) (contents_of before), length-empty))) ∙ append-nil empty_journal

  -- a written empty journal is harmless before it is synced
  pub written_harmless : IsHarmless before (Then (Wrote 0 empty_journal) (Then Synced before))
  written_harmless = record {
    contents = short_stands (contents_of before) (contents_of (Then (Wrote 0 empty_journal) (Then Synced before))) short
        (omega (arith, ap length written_is, length-empty));
    images = Leaves-step (Old before) before (Then Synced before) (Wrote 0 empty_journal)
        (harmless_synced before).images
        (λ image from. inr (short_stands (contents_of before) image short
        (short_image (0 + length empty_journal) (omega (arith, length-empty)) image (
          from.0,
          from.1,
          subst (λ (size : ℕ). Torn 0 size (0 + length empty_journal) from.0 image) length-empty
              from.2,
        ))));
  }

  -- a made empty journal is harmless
  pub made_harmless : IsHarmless before (Then Synced (Then (Wrote 0 empty_journal) (Then Synced before)))
  made_harmless = record {
    contents = written_harmless.contents;
    images = Leaves-step (Old before) before (Then (Wrote 0 empty_journal) (Then Synced before)) Synced
        written_harmless.images
        (λ image left. inr (λ payloads stands. subst (λ (list : List ℕ). StandsFor payloads list) (sym left)
        (written_harmless.contents payloads stands)));
  }

  -- a made empty journal holds no payload
  pub made_holds : Holds [] 17 (Then Synced (Then (Wrote 0 empty_journal) (Then Synced before)))
  made_holds = record {
    place = omega (arith, length-append (header) (frames 0 []), length-header Second);
    file = record {
      sizes = tt;
      gate = 0;
      rest = [];
      is = written_is ∙ ap (λ (list : List ℕ). list ++ 0 ∷ []) (sym (append-nil (header)));
      closed = λ is. omega arith;
    };
    synced = λ image left. left;
  }

-- the file is read from the disk
pub read_holds : (payloads : List (List ℕ)) (gate : ℕ) (before : Past) → length (front payloads) ≡ gate
    → IsFramed payloads (contents_of before) → Holds payloads gate (Then Synced before)
read_holds payloads gate before place file = record { place = place; file = file; synced = λ image left. left }

-- the disk failed while it was synced or read
pub read_fails : (before now : Past) → SyncsOrNot before now → IsHarmless before now
read_fails before now (inl same) = subst (λ (past : Past). IsHarmless before past) (sym same) (harmless_start before)
read_fails before now (inr synced) = subst (λ (past : Past). IsHarmless before past) (sym synced)
    (harmless_synced before)

-- the disk failed while the empty journal was made
pub making_fails : (before mid now : Past) → mid ≡ Then Synced before → length (contents_of before) ≤ 18
    → MadeInPart mid now → IsHarmless before now
making_fails before mid now synced short part = go mid synced part
  where
    go : (past : Past) → past ≡ Then Synced before → MadeInPart past now → IsHarmless before now
    go past is (inl same) = subst (λ (past : Past). IsHarmless before past) (sym (same ∙ is)) (harmless_synced before)
    go past is (inr (inl torn)) = subst (λ (past : Past). IsHarmless before past)
        (sym (torn.2 ∙ ap (Then (Tore 0 18 torn.0)) is))
        (torn_harmless before short torn.0 (subst (λ (past : Past). Torn 0 18 18 (contents_of past) torn.0) is torn.1))
    go past is (inr (inr wrote)) = subst (λ (past : Past). IsHarmless before past)
        (sym (wrote ∙ ap (Then (Wrote 0 empty_journal)) is)) (written_harmless before short)

-- the empty journal is made
pub made : (before mid now : Past) → mid ≡ Then Synced before → length (contents_of before) ≤ 18 → now ≡ made_past mid
    → Holds [] 17 now × IsHarmless before now
made before mid now synced short is =
    let whole : now ≡ made_past (Then Synced before) = is ∙ ap made_past synced in (
      subst (λ (past : Past). Holds [] 17 past) (sym whole) (made_holds before short),
      subst (λ (past : Past). IsHarmless before past) (sym whole) (made_harmless before short),
    )

-- the bytes of an empty journal, as they are written
pub empty_is : codes "TBHOSTJOURNAL002\u{1}\0" ≡ empty_journal
unfolding title_of
empty_is = refl

-- what an opening that found payloads did
abbrev pub FindsThem : ℕ → ℕ → Past → Past → Type 0
FindsThem gate ordinal before now = Finds gate before now × FindsSoMany ordinal before now × IsHarmless before now

-- the file read to the gate
pub found_reads : (gate : ℕ) (before now : Past) → Finds gate before now → ReadsSome Second gate (contents_of before)
found_reads gate before now finds = (finds.0, record { place = finds.2.place; stands = finds.1 })

-- what a disk holds reads to the gate
pub holds_reads : (payloads : List (List ℕ)) (gate : ℕ) (past : Past) → Holds payloads gate past
    → ReadsTo Second payloads gate (contents_of past)
holds_reads payloads gate past holds = record {
  place = holds.place;
  stands = IsFramedIn-stands Second payloads (contents_of past) holds.file;
}

-- the file reads to the gate
pub found_reads_now : (gate : ℕ) (before now : Past) → Finds gate before now → ReadsSome Second gate (contents_of now)
found_reads_now gate before now finds = (finds.0, holds_reads finds.0 gate now finds.2)

-- what an opening that was refused did
abbrev pub Refuses : JournalFault → Past → Past → Type 0
Refuses fault before now = IsTrueOf (contents_of before) (Err fault) × LeavesRefused fault before now
    × IsHarmless before now

-- a fault of the disk
refuses_disk : (fault : JournalFault) (before now : Past)
    → fault ≡ DiskFault
    → BreaksOff before now
    → IsHarmless before now
    → Refuses fault before now
refuses_disk fault before now is broken harmless =
    subst (λ (answer : JournalFault). Refuses answer before now) (sym is) (tt, broken, harmless)

-- an opening that did nothing, or a sync, is broken off
pub breaks_reading : (before now : Past) → SyncsOrNot before now → BreaksOff before now
breaks_reading before now part = record { kept = λ _. part; made = λ _. go part }
  where
    go : SyncsOrNot before now
        → (now ≡ before) ⊎ (MadeInPart (Then Synced before) now ⊎ (now ≡ made_past (Then Synced before)))
    go (inl same) = inl same
    go (inr synced) = inr (inl (inl synced))

-- so is one that made a part of an empty journal
breaks_making : (before mid now : Past) → mid ≡ Then Synced before → length (contents_of before) ≤ 18
    → MadeInPart mid now → BreaksOff before now
breaks_making before mid now synced short part = record {
  kept = λ long. absurd (omega (arith, long, short));
  made = λ _. inr (inl (subst (λ (past : Past). MadeInPart past now) synced part));
}

-- so is a whole one, behind which memory runs out
pub breaks_opened : (old new : DiskState) → Told old new Opens → Told old new BreaksOff
breaks_opened old new = Told-weaker Opens BreaksOff old new (λ before now opens. record {
  kept = λ long. inr (opens.kept long);
  made = λ short. inr (inr (opens.made short));
})

-- a refusal after a sync
leaves_synced : (fault : JournalFault) (before now : Past) → now ≡ Then Synced before → LeavesRefused fault before now
leaves_synced (NotAJournal found) before now synced = synced
leaves_synced (Unsealed byte) before now synced = synced
leaves_synced (Damaged place) before now synced = synced
leaves_synced DiskFault before now synced = breaks_reading before now (inr synced)
leaves_synced OutOfMemory before now synced = breaks_reading before now (inr synced)

-- the disk couldn't be measured
pub measuring_fails : (fault : JournalFault) (old new : DiskState) → fault ≡ DiskFault
    → Told old new SyncsOrNot → Told old new (Refuses fault)
measuring_fails fault old new is = Told-weaker SyncsOrNot (Refuses fault) old new
    (λ before now part.
    refuses_disk fault before now is (breaks_reading before now part) (read_fails before now part))

-- an empty journal couldn't be made
pub find_making_fails : (fault : JournalFault) (size : ℕ) (old mid new : DiskState) → fault ≡ DiskFault
    → size ≤ 18 → Told old mid (Measures size) → Told mid new MadeInPart → Told old new (Refuses fault)
find_making_fails fault size old mid new is short = Told-both (Measures size) MadeInPart (Refuses fault) old mid new
    (λ before mid now measures part. (
    let within : length (contents_of before) ≤ 18 = omega (arith, short, measures.1) in
    refuses_disk fault before now is (breaks_making before mid now measures.0 within part)
    (making_fails before mid now measures.0 within part)))

-- at most 18 bytes stand for no payload
none_found : (before now : Past) → length (contents_of before) ≤ 18 → FindsSoMany 0 before now
none_found before now short payloads stands =
    ap length (StandsIn-one Second payloads [] (contents_of before) stands (inl (short, refl)))

-- an empty journal was made
pub find_made : (size : ℕ) (old mid new : DiskState) → size ≤ 18 → Told old mid (Measures size)
    → Told mid new (λ before now. now ≡ made_past before) → Told old new (FindsThem 17 0)
find_made size old mid new short = Told-both (Measures size) (λ before now. now ≡ made_past before)
    (FindsThem 17 0) old mid new
    (λ before mid now measures is. (
    let within : length (contents_of before) ≤ 18 = omega (arith, short, measures.1) in
    let both = made before mid now measures.0 within is in (
      ([], inl (within, refl), both.0),
      none_found before now within,
      both.1,
    )))

-- what the file is after it was measured
pub has_length : (size : ℕ) (old new : DiskState) → Told old new (Measures size) → HasLength new size
has_length size old new measures = told_after (Measures size) (λ past. size ≡ length (contents_of past)) old new
    (λ before now told. told.1 ∙ ap (λ (past : Past). length (contents_of past)) (sym told.0)) measures

-- what a file that was only read tells
pub told_kept : (P : Past → Past → Type 0) (old mid new : DiskState) → new.past ≡ mid.past → Told old mid P
    → Told old new P
told_kept P old mid new same told = record {
  silent = λ none. same ∙ told.silent none;
  told = λ before is. (let first = told.told before is in (first.0, same ∙ first.1, first.2));
}

-- a journal was found
pub find_found : (gate ordinal size : ℕ) (old mid new : DiskState) → new.past ≡ mid.past → Told old mid (Measures size)
    → IfSome mid.past (λ past. EndsAt Second gate ordinal (contents_of past)) → Told old new (FindsThem gate ordinal)
find_found gate ordinal size old mid new same measures ends = told_kept (FindsThem gate ordinal) old mid new same
    (told_known (Measures size) (λ past. EndsAt Second gate ordinal (contents_of past)) (FindsThem gate ordinal) old mid
    (λ before now told known. (
    let file : IsFramed known.payloads (contents_of before) =
    subst (λ (past : Past). IsFramed known.payloads (contents_of past)) told.0 known.framed in
    let stands : StandsFor known.payloads (contents_of before) =
    IsFramedIn-stands Second known.payloads (contents_of before) file in (
      (
        known.payloads,
        stands,
        subst (λ (past : Past). Holds known.payloads gate past) (sym told.0)
            (read_holds known.payloads gate before known.place file),
      ),
      λ payloads also. ap length (StandsIn-one Second payloads known.payloads (contents_of before) also stands)
          ∙ known.count,
      read_fails before now (inr told.0),
    ))) measures ends)

-- the file was refused
pub find_refused : (fault : JournalFault) (size : ℕ) (old mid new : DiskState) → new.past ≡ mid.past
    → Told old mid (Measures size) → IfSome mid.past (λ past. IsTrueOf (contents_of past) (Err fault))
    → Told old new (Refuses fault)
find_refused fault size old mid new same measures refused = told_kept (Refuses fault) old mid new same
    (told_known (Measures size) (λ past. IsTrueOf (contents_of past) (Err fault)) (Refuses fault) old mid
    (λ before now told known. (
      subst (λ (past : Past). IsTrueOf (contents_of past) (Err fault)) told.0 known,
      leaves_synced fault before now told.0,
      read_fails before now (inr told.0),
    )) measures refused)

-- an empty journal was written, and not synced
pub making_sync_fails : (old mid new : DiskState) → Takes (Wrote 0 empty_journal) old mid → Fails mid new
    → Told old new MadeInPart
making_sync_fails old mid new writes fails = record {
  silent = λ none. fails.past ∙ still_silent (Wrote 0 empty_journal) old mid writes none;
  told = λ before told. (
    Then (Wrote 0 empty_journal) before,
    fails.past
        ∙ told_step (Wrote 0 empty_journal) old mid writes before told,
    inr (inr refl),
  );
}

-- the steps of an opening that made an empty journal
pub opens_made : (size : ℕ) (old mid new : DiskState) → size ≤ 18 → Told old mid (Measures size)
    → Told mid new (λ before now. now ≡ made_past before) → Told old new Opens
opens_made size old mid new short = Told-both (Measures size) (λ before now. now ≡ made_past before) Opens old mid new
    (λ before between now measures is. record {
      kept = λ long. absurd (omega (arith, long, short, measures.1));
      made = λ _. is ∙ ap made_past measures.0;
    })

-- the steps of an opening that found a journal
pub opens_found : (size : ℕ) (old mid new : DiskState) → 18 < size → new.past ≡ mid.past → Told old mid (Measures size)
    → Told old new Opens
opens_found size old mid new long same measures = told_kept Opens old mid new same
    (Told-weaker (Measures size) Opens old mid
    (λ before now told. record {
      kept = λ _. told.0;
      made = λ short. absurd (omega (arith, long, short, told.1));
    }) measures)
