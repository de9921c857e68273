-- A history is written a frame for each entry, and each crash meanwhile leaves what was there, nothing, or the history.
use Rattle.std.proofs.Common.{zero, suc, ◌≡◌, ◌<◌, inl, inr, ℕ, ◌+◌, ◌^◌, List, [], ◌∷◌, length, get_or, map, Option, Some, IfSome, refl, sym, ◌∙◌, ap, subst, arith, Ok}
use Rattle.std.specs.List.{All, slice_get}
use Rattle.std.proofs.lemmas.List.{append-nil}
use Rattle.std.proofs.lemmas.Option.{slice_get-get_or}
use Rattle.tb_disk.specs.Steps.{Synced}
use Rattle.tb_disk.specs.Past.{Past, Then, contents_of, Leaves}
use Rattle.tb_disk.specs.Disks.{DiskState}
use Rattle.tb_disk.proofs.Moments.{Leaves-weaker}
use Rattle.tb_message.specs.declared.message.Entry.{Entry}
use Rattle.tb_message.specs.declared.version.Version.TheVariants as versions
use Rattle.tb_message.specs.Spelling.{spelling, IsInRange}
use Rattle.tb_message.proofs.RecordLaws.{spelling-sizes}
use Rattle.tb_history.specs.Legal.{IsLegal}
use Rattle.tb_journal.specs.declared.form.Form.TheVariants as forms
use Rattle.tb_journal.specs.Frames.{front, IsPayload}
use Rattle.tb_journal.specs.Image.{StandsFor}
use Rattle.tb_journal.specs.Journal.{Told, SyncsOrNot}
use Rattle.tb_journal.specs.Places.{ReadsTo}
use Rattle.tb_journal.specs.Answers.{IsExactAtIn}
use Rattle.tb_journal.specs.Writing.{IsOldBlankOr, IsSealed, Rewrites, RewritesInPart}
use Rattle.tb_journal.proofs.ToldLemmas.{Told-weaker, told_after, told_given, known_of}
use Rattle.tb_journal.proofs.WritingImages.{sealed_stands}
use Rattle.tb_desk.specs.Stands.{joined, payloads_of, IsGroup, StandsForHistory}
use Rattle.tb_desk.specs.Replay.{IsExactIn}
use Rattle.tb_desk.specs.Migration.{StoodFor, IsOldBlankOrMigrated, LeavesMigrated, Keeps}
use Rattle.tb_desk.proofs.GroupLemmas.{gate-bound}
use Rattle.tb_desk.proofs.ExactLemmas.{FindsIn}

-- each entry is a group of its own
abbrev pub ones : List Entry → List (List Entry)
ones history = map (λ entry. entry ∷ []) history

-- they make up the history
pub joined-ones : (history : List Entry) → joined (ones history) ≡ history
joined-ones [] = refl
joined-ones (entry ∷ history) = ap (λ (entries : List Entry). entry ∷ entries) (joined-ones history)

-- and their payloads are its records
pub payloads-ones : (history : List Entry) → payloads_of (ones history) ≡ map spelling history
payloads-ones [] = refl
payloads-ones (entry ∷ history) = ap (λ (payload : List ℕ). payload ∷ payloads_of (ones history))
    (append-nil (spelling entry)) ∙ ap (λ (payloads : List (List ℕ)). spelling entry ∷ payloads) (payloads-ones history)

-- each has an entry
pub sizes-ones : (history : List Entry) → All IsGroup (ones history)
sizes-ones [] place d within = absurd (omega (arith, within))
sizes-ones (entry ∷ history) zero d within = omega arith
sizes-ones (entry ∷ history) (suc place) d within = sizes-ones history place d (omega (arith, within))

-- a file of these records stands for the history
stands-ones : (history : List Entry) (file : List ℕ) → StandsFor (map spelling history) file
    → StandsForHistory history file
stands-ones history file stands = record {
  groups = ones history;
  whole = joined-ones history;
  stands = subst (λ (payloads : List (List ℕ)). StandsFor payloads file) (sym (payloads-ones history)) stands;
}

-- they are far from the end
pub ends-ones : (history : List Entry) → IsLegal history → length (front (map spelling history)) + 1 < 2 ^ 42
ends-ones history legal = omega (
  arith,
  gate-bound (ones history) history (joined-ones history) (sizes-ones history) legal,
  ap (λ (payloads : List (List ℕ)). length (front payloads)) (payloads-ones history),
)

-- an entry that is there is the one at its place
pub entry_at : (entries : List Entry) (place : ℕ) (entry : Entry) → place < length entries
    → slice_get entries place ≡ Some entry → entry ≡ get_or entries place entry
entry_at entries place entry within there =
    let same : Some entry ≡ Some (get_or entries place entry) =
    sym there ∙ slice_get-get_or entries place entry within in
    cc

-- the record of an entry is a payload
pub payload-one : (entry : Entry) → IsInRange entry → IsPayload (spelling entry)
payload-one entry in_range = record {
  some = (spelling-sizes entry in_range).0;
  short = omega (arith, (spelling-sizes entry in_range).1);
}

-- each crash of a sealed journal leaves the history
keeps_sealed : (history : List Entry) (past : Past) → IsSealed (map spelling history) past → Keeps history past
keeps_sealed history past sealed image left = stands-ones history image
    (subst (StandsFor (map spelling history)) (sym (sealed.synced image left ∙ sealed.is))
    (sealed_stands (map spelling history) sealed.sizes))

pub keeps_rewritten : (history : List Entry) (old new : DiskState) → Told old new (Rewrites (map spelling history))
    → IfSome new.past (Keeps history)
keeps_rewritten history old new = told_after (Rewrites (map spelling history)) (Keeps history) old new
    (λ before now rewrites. keeps_sealed history now rewrites.0)

module _ (first : Option Past) (history : List Entry)
    (stood : IfSome first (λ past. StoodFor history (contents_of past)))
  where
    -- what is old, blank or the payloads is old, blank or the history
    migrated_file : (old file : List ℕ) → IsOldBlankOr old (map spelling history) file
        → IsOldBlankOrMigrated first old file
    migrated_file old file (inl same) = inl (inl same)
    migrated_file old file (inr (inl blank)) = inl (inr blank)
    migrated_file old file (inr (inr stands)) = inr (history, stood, stands-ones history file stands)

    migrated_leaves : (old : List ℕ) (from now : Past) → Leaves (IsOldBlankOr old (map spelling history)) from now
        → Leaves (IsOldBlankOrMigrated first old) from now
    migrated_leaves old from now =
        Leaves-weaker (IsOldBlankOr old (map spelling history)) (IsOldBlankOrMigrated first old)
        from now (migrated_file old)

    -- a whole journal was written
    pub migrated_whole : (old new : DiskState) → Told old new (Rewrites (map spelling history))
        → Told old new (LeavesMigrated first)
    migrated_whole old new = Told-weaker (Rewrites (map spelling history)) (LeavesMigrated first) old new
        (λ before now rewrites. inr (migrated_leaves (contents_of before) (Then Synced before) now rewrites.1))

    -- or in part
    pub migrated_in_part : (old new : DiskState) → Told old new (RewritesInPart (map spelling history))
        → Told old new (LeavesMigrated first)
    migrated_in_part old new = Told-weaker (RewritesInPart (map spelling history)) (LeavesMigrated first) old new
        (λ before now part. elim part [
          | inl same ↦ inl same
          | inr leaves ↦ inr (migrated_leaves (contents_of before) (Then Synced before) now leaves)
        ])

-- nothing happened to the spare
pub migrated_none : (first : Option Past) (disk : DiskState) → Told disk disk (LeavesMigrated first)
migrated_none first disk = record { silent = λ none. none; told = λ before is. (before, is, inl refl) }

-- an exact history is one for which the file stood
pub exact_stood : (first : Option Past) (history : List Entry)
    → IfSome first (λ past. IsExactIn versions.First (contents_of past) (Ok history))
    → IfSome first (λ past. StoodFor history (contents_of past))
exact_stood first history = known_of (λ past. IsExactIn versions.First (contents_of past) (Ok history))
    (λ past. StoodFor history (contents_of past)) first
    (λ past exact. record { stands = exact.is_true.0; legal = exact.is_true.1 })

-- what opening a journal of the first version finds
pub finds_first : (gate : ℕ) (old disk : DiskState) → Told old disk (λ before now. now ≡ Then Synced before)
    → IfSome old.past (λ past. IsExactAtIn forms.First gate (contents_of past))
    → Told old disk (FindsIn versions.First gate)
finds_first gate old disk = told_given (λ before now. now ≡ Then Synced before)
    (λ past. IsExactAtIn forms.First gate (contents_of past)) (FindsIn versions.First gate) old disk
    (λ before now is exact. (
      exact.payloads,
      exact.exact.is_true,
      subst (λ (past : Past). ReadsTo forms.First exact.payloads gate (contents_of past)) (sym is)
          (record { place = exact.place; stands = exact.exact.is_true }),
    ))

-- a first disk was synced, and then read
pub synced_kept : (old mid new : DiskState) → Told old mid (λ before now. now ≡ Then Synced before)
    → new.past ≡ mid.past → Told old new SyncsOrNot
synced_kept old mid new synced same = record {
  silent = λ none. same ∙ synced.silent none;
  told = λ before is. (let first = synced.told before is in (first.0, same ∙ first.1, inr first.2));
}
