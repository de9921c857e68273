-- What a journal knows of its disk since the opening, after each call.
use Rattle.std.proofs.Common.{◌≡◌, ◌⊎◌, inl, inr, ⊎_elim, ℕ, ◌+◌, ◌<◌, ◌≤◌, List, [], ◌∷◌, ◌++◌, length, take, slice_index, refl, sym, ◌∙◌, ap, subst, arith, length-append, length-take, Bool, true, false, IsTrue, ◌↔◌, Some, None, Option, IfSome}
use Rattle.std.proofs.lemmas.List.{take_all, take-append-le}
use Rattle.std.specs.Bool.{MatchBool}
use Rattle.tb_disk.specs.Steps.{Synced}
use Rattle.tb_disk.specs.Past.{Past, Then, contents_of, Leaves}
use Rattle.tb_disk.specs.Disks.{DiskState, Reaches}
use Rattle.tb_disk.proofs.Moments.{Leaves-start, Leaves-both, Leaves-weaker}
use Rattle.tb_journal.specs.declared.form.Form.TheVariants.{Second}
use Rattle.tb_journal.specs.Frames.{front}
use Rattle.tb_journal.specs.Image.{StandsFor}
use Rattle.tb_journal.specs.Journal.{Told, WithOrWithout, Holds, InDoubt, KeepsAt, Adds, Doubts, StaysInDoubt, LeavesInDoubt, SyncsOrNot, HoldsSoMany}
use Rattle.tb_journal.specs.Opening.{Finds, FindsSoMany}
use Rattle.tb_journal.specs.Journals.{StandsForBeginning, SinceOpening}
use Rattle.tb_journal.proofs.ToldLemmas.{Told-both, Told-weaker, told_after, told_still}
use Rattle.tb_journal.proofs.Calls.{held_stays}
use Rattle.tb_journal.proofs.Gates.{IsFramedIn-stands}
use Rattle.tb_journal.proofs.Spelling.{StandsIn-one}
use Rattle.tb_journal.proofs.Settling.{doubtful_long, doubt_start, doubt_synced, doubt_leaves, settled}

-- a beginning of the payloads, as a file stands for it, or for it and one payload more
abbrev pub StandsForOrOneMore : List ℕ → List (List ℕ) → Type 0
StandsForOrOneMore file beginning = StandsFor beginning file ⊎
    ((payload : List ℕ) × StandsFor (beginning ++ payload ∷ []) file)

-- a beginning of the payloads is one of more payloads
pub StandsForBeginning-more : (recovered payloads : List (List ℕ)) (payload file : List ℕ)
    → StandsForBeginning recovered payloads file → StandsForBeginning recovered (payloads ++ payload ∷ []) file
StandsForBeginning-more recovered payloads payload file is = record {
  kept = is.kept;
  enough = is.enough;
  within = omega (arith, is.within, length-append payloads (payload ∷ []));
  stands = subst (StandsForOrOneMore file) (sym (take-append-le is.kept payloads (payload ∷ []) is.within)) is.stands;
}

-- all the payloads, with one more or without it
pub StandsForBeginning-either : (recovered payloads : List (List ℕ)) (payload file : List ℕ)
    → length recovered ≤ length payloads → WithOrWithout payloads payload file
    → StandsForBeginning recovered payloads file
StandsForBeginning-either recovered payloads payload file enough either =
    let whole : take (length payloads) payloads ≡ payloads = take_all (length payloads) payloads (omega arith) in
    let stands : StandsForOrOneMore file payloads = ⊎_elim (λ without. inl without)
    (λ with. inr (payload, with)) either in
    record {
      kept = length payloads;
      enough = enough;
      within = omega arith;
      stands = subst (StandsForOrOneMore file) (sym whole) stands;
    }

-- the recovered payloads are among the payloads
pub recovered-within : (recovered payloads : List (List ℕ)) → take (length recovered) payloads ≡ recovered
    → length recovered ≤ length payloads
recovered-within recovered payloads begins = omega (arith, ap length begins, length-take (length recovered) payloads)

-- a call that leaves the list as it was
pub since-kept : (gate here ordinal : ℕ) (doubt after : Option ℕ) (opened before now : Past) (payload : List ℕ)
    → (known : SinceOpening gate ordinal doubt opened before)
    → KeepsAt known.payloads here after now
    → Leaves (WithOrWithout known.payloads payload) before now
    → SinceOpening here ordinal after opened now
since-kept gate here ordinal doubt after opened before now payload known keeps leaves =
    let Beginning : List ℕ → Type 0 = StandsForBeginning known.recovered known.payloads in
    let enough : length known.recovered ≤ length known.payloads =
    recovered-within known.recovered known.payloads known.begins in
    record {
      recovered = known.recovered;
      payloads = known.payloads;
      found = known.found;
      begins = known.begins;
      count = known.count;
      keeps = keeps;
      leaves = Leaves-both Beginning opened before now known.leaves
          (Leaves-weaker (WithOrWithout known.payloads payload) Beginning before now
          (λ file either. StandsForBeginning-either known.recovered known.payloads payload file enough either) leaves);
    }

-- a call that adds a payload to the list
pub since-grown : (gate here ordinal : ℕ) (doubt : Option ℕ) (opened before now : Past) (payload : List ℕ)
    → (known : SinceOpening gate ordinal doubt opened before)
    → Holds (known.payloads ++ payload ∷ []) here now
    → Leaves (WithOrWithout known.payloads payload) before now
    → SinceOpening here (ordinal + 1) None opened now
since-grown gate here ordinal doubt opened before now payload known holds leaves =
    let grown : List (List ℕ) = known.payloads ++ payload ∷ [] in
    let Old : List ℕ → Type 0 = StandsForBeginning known.recovered known.payloads in
    let New : List ℕ → Type 0 = StandsForBeginning known.recovered grown in
    let enough : length known.recovered ≤ length known.payloads =
    recovered-within known.recovered known.payloads known.begins in
    let more : (file : List ℕ) → Old file → New file = λ file is. StandsForBeginning-more known.recovered known.payloads
    payload file is in
    record {
      recovered = known.recovered;
      payloads = grown;
      found = known.found;
      begins = take-append-le (length known.recovered) known.payloads (payload ∷ []) enough ∙ known.begins;
      count = omega (arith, length-append known.payloads (payload ∷ []), known.count);
      keeps = holds;
      leaves = Leaves-both New opened before now (Leaves-weaker Old New opened before more known.leaves)
          (Leaves-weaker (WithOrWithout known.payloads payload) New before now
          (λ file either. more file (StandsForBeginning-either known.recovered known.payloads payload file enough
          either)) leaves);
    }

-- the opening itself
pub since-opened : (payloads : List (List ℕ)) (gate ordinal : ℕ) (now : Past) → Holds payloads gate now
    → length payloads ≡ ordinal → SinceOpening gate ordinal None now now
since-opened payloads gate ordinal now holds count = record {
  recovered = payloads;
  payloads = payloads;
  found = IsFramedIn-stands Second payloads (contents_of now) holds.file;
  begins = take_all (length payloads) payloads (omega arith);
  count = count;
  keeps = holds;
  leaves = Leaves-start (StandsForBeginning payloads payloads) now
      (λ file left. StandsForBeginning-either payloads payloads [] file (omega arith)
      (inl (held_stays payloads gate now holds file left)));
}

-- what a journal knows of its disk, where that tells what has happened to it
abbrev pub Knows : DiskState → DiskState → ℕ → ℕ → Option ℕ → Type 0
Knows opened disk gate ordinal doubt = Told opened disk (SinceOpening gate ordinal doubt)

-- so many payloads are held
abbrev pub HoldsSome : ℕ → ℕ → Past → Type 0
HoldsSome gate ordinal now = (payloads : List (List ℕ)) × Holds payloads gate now × (length payloads ≡ ordinal)

-- a journal that was just opened
pub knows_opened : (P : Past → Past → Type 0) (gate ordinal : ℕ) (old disk : DiskState)
    → ((before now : Past) → P before now → Finds gate before now × FindsSoMany ordinal before now) → Told old disk P
    → Knows disk disk gate ordinal None
knows_opened P gate ordinal old disk finds told =
    told_still (SinceOpening gate ordinal None) (HoldsSome gate ordinal) disk
    (λ now known. since-opened known.0 gate ordinal now known.1 known.2)
    (told_after P (HoldsSome gate ordinal) old disk
    (λ before now is. (let found = finds before now is in
    (found.0.0, found.0.2, found.1 found.0.0 found.0.1))) told)

-- a payload was added
pub knows_added : (payload : List ℕ) (gate next ordinal : ℕ) (opened old new : DiskState)
    → Knows opened old gate ordinal None → Told old new (Adds payload gate next)
    → Knows opened new next (ordinal + 1) None
knows_added payload gate next ordinal opened old new =
    Told-both (SinceOpening gate ordinal None) (Adds payload gate next) (SinceOpening next (ordinal + 1) None)
    opened old new
    (λ first before now known adds. (let both = adds known.payloads known.keeps in
    since-grown gate next ordinal None first before now payload known both.0 both.1))

-- a payload is in doubt
pub knows_doubted : (payload : List ℕ) (gate next ordinal : ℕ) (opened old new : DiskState)
    → Knows opened old gate ordinal None → Told old new (Doubts payload gate next)
    → Knows opened new gate ordinal (Some next)
knows_doubted payload gate next ordinal opened old new =
    Told-both (SinceOpening gate ordinal None) (Doubts payload gate next) (SinceOpening gate ordinal (Some next))
    opened old new
    (λ first before now known doubts. (let both = doubts known.payloads known.keeps in
    since-kept gate gate ordinal None (Some next) first before now payload known (payload, both.0) both.1))

-- what `gate_is_open` says
abbrev pub Looks : ℕ → Bool → Past → Past → Type 0
Looks gate counts before now = (now ≡ Then Synced before)
    × (gate < length (contents_of before) → IsTrue counts ↔ (slice_index (contents_of before) gate ≡ 1))

-- what was looked up settles what was in doubt, with the gate behind the payload or before it
abbrev pub SettlesAt : ℕ → ℕ → Bool → Past → Past → Type 0
SettlesAt gate next counts before now = (payloads : List (List ℕ)) (payload : List ℕ)
    → InDoubt payloads payload gate next before
    → MatchBool counts (Holds (payloads ++ payload ∷ []) next now) (Holds payloads gate now)

-- a look at the gate byte settles
looks_settle : (gate next : ℕ) (counts : Bool) (before now : Past) → Looks gate counts before now
    → SettlesAt gate next counts before now
looks_settle gate next counts before now looks payloads payload doubt =
    subst (λ (past : Past). MatchBool counts (Holds (payloads ++ payload ∷ []) next past) (Holds payloads gate past))
    (sym looks.0)
    (settled payloads payload gate next before doubt counts
    (looks.1 (doubtful_long payloads payload (contents_of before) gate doubt.place doubt.file)))

-- the same of a disk
pub settles : (gate next : ℕ) (counts : Bool) (old new : DiskState) → Told old new (Looks gate counts)
    → Told old new (SettlesAt gate next counts)
settles gate next counts old new = Told-weaker (Looks gate counts) (SettlesAt gate next counts) old new
    (looks_settle gate next counts)

-- a sync, or a look that failed, leaves in doubt what was
still_doubt : (payloads : List (List ℕ)) (payload : List ℕ) (gate next : ℕ) (before now : Past) → SyncsOrNot before now
    → InDoubt payloads payload gate next before
    → InDoubt payloads payload gate next now × Leaves (WithOrWithout payloads payload) before now
still_doubt payloads payload gate next before now (inl same) doubt = (
  subst (λ (past : Past). InDoubt payloads payload gate next past) (sym same) doubt,
  subst (λ (past : Past). Leaves (WithOrWithout payloads payload) before past) (sym same)
      (doubt_start payloads payload gate next before doubt),
)
still_doubt payloads payload gate next before now (inr synced) doubt = (
  subst (λ (past : Past). InDoubt payloads payload gate next past) (sym synced)
      (doubt_synced payloads payload gate next before doubt),
  subst (λ (past : Past). Leaves (WithOrWithout payloads payload) before past) (sym synced)
      (doubt_leaves payloads payload gate next before doubt),
)

-- the payload in doubt counts
pub knows_counts : (gate next ordinal : ℕ) (opened old new : DiskState) → Knows opened old gate ordinal (Some next)
    → Told old new (Looks gate true) → Knows opened new next (ordinal + 1) None
knows_counts gate next ordinal opened old new =
    Told-both (SinceOpening gate ordinal (Some next)) (Looks gate true) (SinceOpening next (ordinal + 1) None)
    opened old new
    (λ first before now known looks. since-grown gate next ordinal (Some next) first before now known.keeps.0 known
    (looks_settle gate next true before now looks known.payloads known.keeps.0 known.keeps.1)
    (still_doubt known.payloads known.keeps.0 gate next before now (inr looks.0) known.keeps.1).1)

-- the payload in doubt doesn't count
pub knows_counts_not : (gate next ordinal : ℕ) (opened old new : DiskState) → Knows opened old gate ordinal (Some next)
    → Told old new (Looks gate false) → Knows opened new gate ordinal None
knows_counts_not gate next ordinal opened old new =
    Told-both (SinceOpening gate ordinal (Some next)) (Looks gate false) (SinceOpening gate ordinal None)
    opened old new
    (λ first before now known looks. since-kept gate gate ordinal (Some next) None first before now known.keeps.0 known
    (looks_settle gate next false before now looks known.payloads known.keeps.0 known.keeps.1)
    (still_doubt known.payloads known.keeps.0 gate next before now (inr looks.0) known.keeps.1).1)

-- the payload in doubt is in doubt still
pub knows_still : (gate next ordinal : ℕ) (opened old new : DiskState) → Knows opened old gate ordinal (Some next)
    → Told old new SyncsOrNot → Knows opened new gate ordinal (Some next)
knows_still gate next ordinal opened old new =
    Told-both (SinceOpening gate ordinal (Some next)) SyncsOrNot (SinceOpening gate ordinal (Some next))
    opened old new
    (λ first before now known part.
    (let both = still_doubt known.payloads known.keeps.0 gate next before now part known.keeps.1 in
    since-kept gate gate ordinal (Some next) (Some next) first before now known.keeps.0 known
    (known.keeps.0, both.0) both.1))

-- after a look that failed the payload is in doubt still
pub doubts_still : (gate next : ℕ) (old new : DiskState) → Told old new SyncsOrNot
    → Told old new (StaysInDoubt gate next)
doubts_still gate next old new = Told-weaker SyncsOrNot (StaysInDoubt gate next) old new
    (λ before now part payloads payload doubt. (still_doubt payloads payload gate next before now part doubt).0)

-- what a crash leaves while a look fails
pub leaves_still : (gate next : ℕ) (old new : DiskState) → Told old new SyncsOrNot
    → Told old new (LeavesInDoubt gate next)
leaves_still gate next old new = Told-weaker SyncsOrNot (LeavesInDoubt gate next) old new
    (λ before now part payloads payload doubt. (still_doubt payloads payload gate next before now part doubt).1)

-- what a crash leaves during a look
pub leaves_looked : (gate next : ℕ) (counts : Bool) (old new : DiskState) → Told old new (Looks gate counts)
    → Told old new (LeavesInDoubt gate next)
leaves_looked gate next counts old new = Told-weaker (Looks gate counts) (LeavesInDoubt gate next) old new
    (λ before now looks payloads payload doubt. (still_doubt payloads payload gate next before now
    (inr looks.0) doubt).1)

-- the byte that was read is the standing gate byte
pub byte_known : (gate next ordinal : ℕ) (counts : Bool) (opened old new : DiskState)
    → Knows opened old gate ordinal (Some next)
    → Told old new (Looks gate counts)
    → IfSome old.past (λ past. IsTrue counts ↔ (slice_index (contents_of past) gate ≡ 1))
byte_known gate next ordinal counts opened old new known looks = go old.past refl
    (told_after (SinceOpening gate ordinal (Some next)) (λ past. gate < length (contents_of past)) opened old
    (λ first now since. doubtful_long since.payloads since.keeps.0
    (contents_of now) gate since.keeps.1.place since.keeps.1.file) known)
  where
    go : (past : Option Past) → old.past ≡ past → IfSome past (λ now. gate < length (contents_of now))
        → IfSome past (λ now. IsTrue counts ↔ (slice_index (contents_of now) gate ≡ 1))
    go None is within = tt
    go (Some past) is within = (looks.told past is).2.1 within

-- a journal at rest reaches past its gate
reaches_gate : (payloads : List (List ℕ)) (gate : ℕ) (past : Past) → Holds payloads gate past
    → gate + 1 ≤ length (contents_of past)
reaches_gate payloads gate past holds =
    omega (
      arith,
      ap length holds.file.is,
      length-append (front payloads) (holds.file.gate ∷ holds.file.rest),
      holds.place,
    )

-- the same of its disk
pub reaches_behind : (opened disk : DiskState) (gate ordinal : ℕ) → Knows opened disk gate ordinal None
    → Reaches disk (gate + 1)
reaches_behind opened disk gate ordinal = told_after (SinceOpening gate ordinal None)
    (λ past. gate + 1 ≤ length (contents_of past)) opened disk
    (λ first now since. reaches_gate since.payloads gate now since.keeps)

-- the payloads that a journal at rest holds are so many
pub knows_many : (opened disk : DiskState) (gate ordinal : ℕ) → Knows opened disk gate ordinal None
    → IfSome disk.past (HoldsSoMany gate ordinal)
knows_many opened disk gate ordinal = told_after (SinceOpening gate ordinal None) (HoldsSoMany gate ordinal)
    opened disk
    (λ first now since payloads holds.
    ap length (StandsIn-one Second payloads since.payloads (contents_of now)
    (IsFramedIn-stands Second payloads (contents_of now) holds.file)
    (IsFramedIn-stands Second since.payloads (contents_of now) since.keeps.file)) ∙ since.count)
