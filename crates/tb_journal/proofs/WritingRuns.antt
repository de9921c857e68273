-- A journal that is written from its beginning to its seal.
use Rattle.std.proofs.Common.{zero, suc, ◌≡◌, ◌≤◌, ◌<◌, inl, inr, ℕ, ◌+◌, List, [], ◌∷◌, ◌++◌, length, map, get_or, take, refl, sym, ◌∙◌, ap, subst, arith, append_assoc, length-append, IfSome, Result, Err, IfErr}
use Rattle.std.proofs.lemmas.List.{append-nil, get_or-map, take_more, length-map, length-take-le}
use Rattle.tb_disk.specs.Steps.{Synced}
use Rattle.tb_disk.specs.Past.{Past, Then, contents_of, Leaves}
use Rattle.tb_disk.specs.Disks.{DiskState}
use Rattle.tb_disk.proofs.Moments.{Leaves-start, Leaves-both, Leaves-weaker}
use Rattle.tb_journal.specs.Journal.{Told}
use Rattle.tb_journal.proofs.ToldLemmas.{Told-both, Told-weaker, told_after, told_now}
use Rattle.tb_journal.specs.declared.form.Form.TheVariants.{Second}
use Rattle.tb_journal.specs.Frames.{header, framed, frames, front, IsPayload, ArePayloads}
use Rattle.tb_journal.specs.Writing.{IsBlank, IsOldOrBlank, IsBlankOr, IsOldBlankOr, IsWritten, IsWriting, start, behind, Writes, Begins, StopsUnsealed, Adds, AddsAll, AddsInPart, AddsAllInPart, Seals, SealsInPart, Rewrites, RewritesInPart}
use Rattle.tb_journal.proofs.Gates.{length-header, frames_push}
use Rattle.tb_journal.proofs.Spelling.{length-framed}
use Rattle.tb_journal.proofs.WritingImages.{guarded_blank}

-- nothing more
no_more : (n : ℕ) → n ≡ n + 0
no_more n = omega arith

-- how long frames with one more are
pub length-frames_push : (ordinal : ℕ) (payloads : List (List ℕ)) (payload : List ℕ)
    → length (frames ordinal (payloads ++ payload ∷ [])) ≡ length (frames ordinal payloads) + 13 + length payload
length-frames_push ordinal payloads payload = let same = ap length (frames_push Second ordinal payloads payload []) in
    omega (
      arith,
      same,
      length-append (frames ordinal (payloads ++ payload ∷ [])) [],
      length-append (frames ordinal payloads) (1 ∷ (framed (ordinal + length payloads) payload ++ [])),
      length-append (framed (ordinal + length payloads) payload) [],
      length-framed Second (ordinal + length payloads) payload,
    )

-- each of them is a payload
pub payload_in : (payloads : List (List ℕ)) (index : ℕ) → index < length payloads → ArePayloads payloads
    → IsPayload (get_or payloads index [])
payload_in [] index within are = absurd (omega (arith, within))
payload_in (first ∷ payloads) zero within are = are.0
payload_in (first ∷ payloads) (suc index) within are = payload_in payloads index (omega (arith, within)) are.1

-- the first frames and the next one are no longer than all
pub frames_within : (ordinal : ℕ) (payloads : List (List ℕ)) (index : ℕ) → index < length payloads
    → length (frames ordinal (take index payloads)) + 13 + length (get_or payloads index [])
    ≤ length (frames ordinal payloads)
frames_within ordinal [] index within = absurd (omega (arith, within))
frames_within ordinal (first ∷ payloads) zero within = omega (
  arith,
  length-append (framed ordinal first) (frames (ordinal + 1) payloads),
  length-framed Second ordinal first,
)
frames_within ordinal (first ∷ payloads) (suc index) within = omega (
  arith,
  frames_within (ordinal + 1) payloads index (omega (arith, within)),
  length-append (framed ordinal first) (frames (ordinal + 1) payloads),
  length-append (framed ordinal first) (frames (ordinal + 1) (take index payloads)),
)

-- the bytes of the next of some items
pub next_of : {X : Type 0} (bytes_of : X → List ℕ) (items : List X) (index : ℕ) (none : X) → index < length items
    → get_or (map bytes_of items) index [] ≡ bytes_of (get_or items index none)
next_of bytes_of items index none within = get_or-map bytes_of items index none [] within

-- and it among those before it
pub one_more : {X : Type 0} (bytes_of : X → List ℕ) (items : List X) (index : ℕ) (none : X) → index < length items
    → take (index + 1) (map bytes_of items)
    ≡ take index (map bytes_of items) ++ bytes_of (get_or items index none) ∷ []
one_more bytes_of items index none within = take_more (map bytes_of items) index []
    (omega (arith, within, length-map items bytes_of))
    ∙ ap (λ (bytes : List ℕ). take index (map bytes_of items) ++ bytes ∷ []) (next_of bytes_of items index none within)

-- so many stand before it
pub so_many : {X : Type 0} (bytes_of : X → List ℕ) (items : List X) (index : ℕ) → index < length items
    → length (take index (map bytes_of items)) ≡ index
so_many bytes_of items index within = length-take-le index (map bytes_of items)
    (omega (arith, within, length-map items bytes_of))

-- no payload is added
pub adds_none : (place ordinal : ℕ) (past : Past) → AddsAll [] ordinal place past past
adds_none place ordinal past payloads written count = (
  subst (λ (list : List (List ℕ)). IsWritten list (place + 0) past) (sym (append-nil payloads))
      (subst (λ (n : ℕ). IsWritten payloads n past) (no_more place) written),
  Leaves-start IsBlank past (λ image left. guarded_blank image (written.images image left)),
)

-- one payload more is added
pub adds_more : (added : List (List ℕ)) (payload : List ℕ) (ordinal place here there : ℕ) (before between now : Past)
    → here ≡ ordinal + length added → there ≡ place + length (frames ordinal added)
    → AddsAll added ordinal place before between → Adds payload here there between now
    → AddsAll (added ++ payload ∷ []) ordinal place before now
adds_more added payload ordinal place here there before between now is_here is_there all one payloads written count =
    let first = all payloads written count in
    let second = one (payloads ++ added) (subst (λ (n : ℕ). IsWritten (payloads ++ added) n between) (sym is_there)
    first.0) (omega (arith, length-append payloads added, count, is_here)) in (
      subst (λ (n : ℕ). IsWritten (payloads ++ (added ++ payload ∷ [])) n now)
          (omega (arith, is_there, length-frames_push ordinal added payload))
          (subst (λ (list : List (List ℕ)). IsWritten list (behind there payload) now)
          (append_assoc payloads added (payload ∷ [])) second.0),
      Leaves-both IsBlank before between now first.1 second.1,
    )

-- nothing was done to a disk on which a journal is written
pub told_none : (place ordinal : ℕ) (disk : DiskState) → Told disk disk (AddsAll [] ordinal place)
told_none place ordinal disk = record {
  silent = λ none. none;
  told = λ before is. (before, is, adds_none place ordinal before);
}

-- payloads were added, and then one more
pub told_more : (added : List (List ℕ)) (payload : List ℕ) (ordinal place here there : ℕ) (old mid new : DiskState)
    → here ≡ ordinal + length added → there ≡ place + length (frames ordinal added)
    → Told old mid (AddsAll added ordinal place) → Told mid new (Adds payload here there)
    → Told old new (AddsAll (added ++ payload ∷ []) ordinal place)
told_more added payload ordinal place here there old mid new is_here is_there = Told-both (AddsAll added ordinal place)
    (Adds payload here there) (AddsAll (added ++ payload ∷ []) ordinal place) old mid new
    (λ before between now all one. adds_more added payload ordinal place here there before between now is_here is_there
    all one)

-- payloads were added, and then one more in part
pub told_part : (added : List (List ℕ)) (ordinal place there : ℕ) (old mid new : DiskState)
    → there ≡ place + length (frames ordinal added)
    → Told old mid (AddsAll added ordinal place) → Told mid new (AddsInPart there)
    → Told old new (AddsAllInPart ordinal place)
told_part added ordinal place there old mid new is_there = Told-both (AddsAll added ordinal place) (AddsInPart there)
    (AddsAllInPart ordinal place) old mid new
    (λ before between now all part payloads written count. (let first = all payloads written count in
    Leaves-both IsBlank before between now first.1 (part (payloads ++ added)
    (subst (λ (n : ℕ). IsWritten (payloads ++ added) n between) (sym is_there) first.0))))

-- what is written then
pub writing_more : (added : List (List ℕ)) (ordinal place here there : ℕ) (old new : DiskState)
    → here ≡ ordinal + length added → there ≡ place + length (frames ordinal added)
    → Told old new (AddsAll added ordinal place) → IfSome old.past (IsWriting place ordinal)
    → IfSome new.past (IsWriting there here)
writing_more added ordinal place here there old new is_here is_there = told_now (AddsAll added ordinal place)
    (IsWriting place ordinal) (IsWriting there here) old new
    (λ before now all writing. (
      writing.0 ++ added,
      subst (λ (n : ℕ). IsWritten (writing.0 ++ added) n now) (sym is_there) (all writing.0 writing.1 writing.2).0,
      omega (arith, length-append writing.0 added, writing.2, is_here),
    ))

-- a journal that was begun is written without a payload
pub writing_begun : (old new : DiskState) → Told old new Begins → IfSome new.past (IsWriting start 0)
writing_begun old new = told_after Begins (IsWriting start 0) old new (λ before now begins. ([], begins.0, refl))

-- what is blank is old or blank
blank_or_old : (old : List ℕ) (before now : Past) → Leaves IsBlank before now → Leaves (IsOldOrBlank old) before now
blank_or_old old before now = Leaves-weaker IsBlank (IsOldOrBlank old) before now (λ image blank. inr blank)

-- a journal was begun, and payloads were added
pub begun_all : (added : List (List ℕ)) (old mid new : DiskState) → Told old mid Begins
    → Told mid new (AddsAll added 0 start) → Told old new (Writes added (start + length (frames 0 added)))
begun_all added old mid new = Told-both Begins (AddsAll added 0 start) (Writes added (start + length (frames 0 added)))
    old mid new
    (λ before between now begins all. (let first = all [] begins.0 refl in (
      first.0,
      Leaves-both (IsOldOrBlank (contents_of before)) (Then Synced before) between now begins.1
          (blank_or_old (contents_of before) between now first.1),
    )))

-- or in part
pub begun_part : (old mid new : DiskState) → Told old mid Begins → Told mid new (AddsAllInPart 0 start)
    → Told old new StopsUnsealed
begun_part old mid new = Told-both Begins (AddsAllInPart 0 start) StopsUnsealed old mid new
    (λ before between now begins part. inr (Leaves-both (IsOldOrBlank (contents_of before)) (Then Synced before) between
    now begins.1 (blank_or_old (contents_of before) between now (part [] begins.0 refl))))

module _ (payloads : List (List ℕ)) where
  -- what is old or blank is old, blank or the payloads
  old_or_more : (old : List ℕ) (from now : Past) → Leaves (IsOldOrBlank old) from now
      → Leaves (IsOldBlankOr old payloads) from now
  old_or_more old from now = Leaves-weaker (IsOldOrBlank old) (IsOldBlankOr old payloads) from now more
    where
      more : (file : List ℕ) → IsOldOrBlank old file → IsOldBlankOr old payloads file
      more file (inl same) = inl same
      more file (inr blank) = inr (inl blank)

  -- what is blank or the payloads is old, blank or the payloads
  blank_or_more : (old : List ℕ) (from now : Past) → Leaves (IsBlankOr payloads) from now
      → Leaves (IsOldBlankOr old payloads) from now
  blank_or_more old from now = Leaves-weaker (IsBlankOr payloads) (IsOldBlankOr old payloads) from now
      (λ image more. inr more)

  -- payloads were written and sealed
  pub rewritten : (place there : ℕ) (old mid new : DiskState) → there ≡ place → Told old mid (Writes payloads place)
      → Told mid new (Seals there) → Told old new (Rewrites payloads)
  rewritten place there old mid new is_there = Told-both (Writes payloads place) (Seals there) (Rewrites payloads)
      old mid new
      (λ before between now writes seals. (let sealed = seals payloads
      (subst (λ (n : ℕ). IsWritten payloads n between) (sym is_there) writes.0) in (
        sealed.0,
        Leaves-both (IsOldBlankOr (contents_of before) payloads) (Then Synced before) between now
            (old_or_more (contents_of before) (Then Synced before) between writes.1)
            (blank_or_more (contents_of before) between now sealed.1),
      )))

  -- or in part
  pub rewritten_in_part : (place there : ℕ) (old mid new : DiskState) → there ≡ place
      → Told old mid (Writes payloads place) → Told mid new (SealsInPart there) → Told old new (RewritesInPart payloads)
  rewritten_in_part place there old mid new is_there = Told-both (Writes payloads place) (SealsInPart there)
      (RewritesInPart payloads) old mid new
      (λ before between now writes seals. inr (Leaves-both (IsOldBlankOr (contents_of before) payloads)
      (Then Synced before) between now (old_or_more (contents_of before) (Then Synced before) between writes.1)
      (blank_or_more (contents_of before) between now (seals payloads
      (subst (λ (n : ℕ). IsWritten payloads n between) (sym is_there) writes.0)))))

  -- the journal wasn't sealed
  pub stopped : (old new : DiskState) → Told old new StopsUnsealed → Told old new (RewritesInPart payloads)
  stopped old new = Told-weaker StopsUnsealed (RewritesInPart payloads) old new (λ before now stops. elim stops [
    | inl same ↦ inl same
    | inr leaves ↦ inr (old_or_more (contents_of before) (Then Synced before) now leaves)
  ])

-- a whole run: a journal was begun, and payloads added
module _ (payloads : List (List ℕ)) (place ordinal : ℕ) (at : (place ≡ start) × (ordinal ≡ 0)) (old mid now : DiskState)
    (begins : Told old mid Begins) where
  -- the place and the ordinal are those of the beginning
  at_start : (P : ℕ → ℕ → Past → Past → Type 0) → Told mid now (P ordinal place) → Told mid now (P 0 start)
  at_start P told = subst (λ (n : ℕ). Told mid now (P n start)) at.1
      (subst (λ (n : ℕ). Told mid now (P ordinal n)) at.0 told)

  -- the payloads were added in part
  pub run_stops : Told mid now (AddsAllInPart ordinal place) → Told old now (RewritesInPart payloads)
  run_stops part = stopped payloads old now (begun_part old mid now begins (at_start AddsAllInPart part))

  module _ (end : ℕ) (is_end : end ≡ place + length (frames ordinal payloads))
      (adds : Told mid now (AddsAll payloads ordinal place)) where
    -- where the payloads end
    pub run_ends : end ≡ start + length (frames 0 payloads)
    run_ends = is_end ∙ (ap (λ (n : ℕ). place + length (frames n payloads)) at.1
        ∙ ap (λ (n : ℕ). n + length (frames 0 payloads)) at.0)

    -- so many are written
    pub run_writing : (count : ℕ) → count ≡ ordinal + length payloads → IfSome now.past (IsWriting end count)
    run_writing count is = writing_more payloads ordinal place count end mid now is is_end adds
        (subst (λ (n : ℕ). IfSome mid.past (IsWriting place n)) (sym at.1)
        (subst (λ (n : ℕ). IfSome mid.past (IsWriting n 0)) (sym at.0) (writing_begun old mid begins)))

    -- the payloads up to their end
    run_writes : Told old now (Writes payloads (start + length (frames 0 payloads)))
    run_writes = begun_all payloads old mid now begins (at_start (AddsAll payloads) adds)

    -- they were sealed
    pub run_seals : (new : DiskState) → Told now new (Seals end) → Told old new (Rewrites payloads)
    run_seals new = rewritten payloads (start + length (frames 0 payloads)) end old now new run_ends run_writes

    -- or in part
    pub run_seals_in_part : (new : DiskState) → Told now new (SealsInPart end) → Told old new (RewritesInPart payloads)
    run_seals_in_part new = rewritten_in_part payloads (start + length (frames 0 payloads)) end old now new run_ends
        run_writes

-- how long the header and the frames are
pub length-front_start : (payloads : List (List ℕ)) → length (front payloads) ≡ start + length (frames 0 payloads)
length-front_start payloads = omega (arith, length-append header (frames 0 payloads), length-header Second)

-- what is known at this error
pub at_err : {A E : Type 0} (P : E → Type 0) (result : Result A E) (error : E) → result ≡ Err error → IfErr result P
    → P error
at_err {A} {E} P result error is known = subst (λ (r : Result A E). IfErr r P) is known
