-- What remains behind a gate.
use Rattle.std.proofs.Common.{◌≡◌, ◌⊎◌, ℕ, ◌+◌, ◌<◌, ◌≤◌, List, [], ◌∷◌, ◌++◌, length, take, drop, sym, ◌∙◌, ap, subst, inl, inr, arith, append_assoc, length-append, length-take}
use Rattle.std.specs.List.{All}
use Rattle.std.proofs.lemmas.Bool.{cases_lt}
use Rattle.std.proofs.lemmas.List.{append-nil, drop_at, flat_map_more, length_push, take_all}
use Rattle.std.proofs.lemmas.List.Elements.{All-append, All-cons, All-head, All-nil}
use Rattle.tb_disk.specs.Past.{Past, contents_of}
use Rattle.tb_journal.specs.Behind.{BeginsWithFrame, HasTwoFrames, most_behind}
use Rattle.tb_journal.proofs.BehindLemmas.{BeginsWithFrame-one}
use Rattle.tb_journal.specs.Frames.{front}
use Rattle.std.specs.Prelude.{IfSome, None, Option, Some}
use Rattle.tb_journal.specs.Journal.{Holds, HoldsSoMany}
use Rattle.tb_journal.specs.Windows.{AreAt}
use Rattle.tb_message.specs.declared.message.Entry.{Entry}
use Rattle.tb_message.specs.declared.version.Version.TheVariants.{Second}
use Rattle.tb_message.specs.Spelling.{IsInRange, IsNoRecordIn, IsTaken, spelling, spellings}
use Rattle.tb_desk.specs.Remains.{AreRemains, HasRemains, HasTwoGroups, IsDamage, SpellsGroup}
use Rattle.tb_desk.specs.Stands.{HoldsAt, IsGroup}
use Rattle.tb_desk.specs.declared.remains.Remains.{Remains}
use Rattle.tb_desk.specs.declared.remains.Remains.TheVariants as remains
use Rattle.tb_desk.proofs.GroupLemmas.{All-append_right}
use Rattle.tb_desk.proofs.ReplayLemmas.{spellings-split}
use Rattle.tb_desk.proofs.WalkingLemmas.{holds_sure}

-- the payload up to the rest is records of entries, and bytes are left, but where none was read yet
pub record ReadsUpTo (payload rest : List ℕ) : Type 0 where
  pub group : List Entry
  pub in_range : All IsInRange group
  pub is : payload ≡ spellings group ++ rest
  pub fresh : (1 ≤ length rest) ⊎ (group ≡ [])

-- one entry more was read
record ReadsOne (payload behind : List ℕ) : Type 0 where
  pub group : List Entry
  pub some : IsGroup group
  pub in_range : All IsInRange group
  pub is : payload ≡ spellings group ++ behind

reads_one : (payload rest : List ℕ) (entry : Entry) (size : ℕ)
    → ReadsUpTo payload rest
    → IsTaken rest entry size
    → ReadsOne payload (drop size rest)
reads_one payload rest entry size so_far taken = record {
  group = so_far.group ++ entry ∷ [];
  some = omega (arith, length_push so_far.group entry);
  in_range = All-append IsInRange so_far.group (entry ∷ []) so_far.in_range
      (All-cons IsInRange entry [] taken.in_range (All-nil IsInRange));
  is = so_far.is ∙ ap (λ (bytes : List ℕ). spellings so_far.group ++ bytes) taken.begins
      ∙ sym (append_assoc (spellings so_far.group) (spelling entry) (drop size rest))
      ∙ ap (λ (bytes : List ℕ). bytes ++ drop size rest) (flat_map_more spelling [] so_far.group entry);
}

-- bytes are left behind it
pub reads_on : (payload rest : List ℕ) (entry : Entry) (size : ℕ)
    → ReadsUpTo payload rest
    → IsTaken rest entry size
    → 1 ≤ length (drop size rest)
    → ReadsUpTo payload (drop size rest)
reads_on payload rest entry size so_far taken left =
    let one = reads_one payload rest entry size so_far taken in
    record { group = one.group; in_range = one.in_range; is = one.is; fresh = inl left }

-- none are left behind it: the payload is a group
pub reads_all : (payload rest : List ℕ) (entry : Entry) (size : ℕ)
    → ReadsUpTo payload rest
    → IsTaken rest entry size
    → drop size rest ≡ []
    → SpellsGroup payload
reads_all payload rest entry size so_far taken none =
    let one = reads_one payload rest entry size so_far taken in
    record {
      group = one.group;
      some = one.some;
      in_range = one.in_range;
      is = one.is ∙ ap (λ (bytes : List ℕ). spellings one.group ++ bytes) none ∙ append-nil (spellings one.group);
    }

-- no record begins the rest: the payload is no group
pub reads_no_more : (payload rest : List ℕ)
    → ReadsUpTo payload rest
    → IsNoRecordIn Second rest
    → SpellsGroup payload
    → ⊥
reads_no_more payload rest so_far none spelled =
    let more = spellings-split Second so_far.group spelled.group rest so_far.in_range spelled.in_range
    (sym so_far.is ∙ spelled.is) in
    at_rest more.0 more.1 more.2
  where
    at_rest : (more : List Entry) → spelled.group ≡ so_far.group ++ more → rest ≡ spellings more → ⊥
    at_rest [] whole left = elim so_far.fresh [
      | inl bytes ↦ omega (arith, bytes, ap length left)
      | inr empty ↦ omega (
        arith,
        spelled.some,
        ap length whole,
        length-append so_far.group [],
        ap length empty,
      )
    ]
    at_rest (entry ∷ more) whole left =
        none entry
        (All-head IsInRange entry more (All-append_right so_far.group (entry ∷ more)
        (subst (λ (entries : List Entry). All IsInRange entries) whole spelled.in_range)))
        (spellings more) left

-- two frames at the front of the bytes are the only two
HasTwoFrames-one : (ordinal : ℕ) (first second other another bytes : List ℕ)
    → HasTwoFrames ordinal first second bytes
    → HasTwoFrames ordinal other another bytes
    → (first ≡ other) × (second ≡ another)
HasTwoFrames-one ordinal first second other another bytes ones others =
    let begins = BeginsWithFrame-one ordinal first other (ones.gate ∷ ones.between) (others.gate ∷ others.between) bytes
    ones.begins others.begins in
    let same : ones.gate ∷ ones.between ≡ others.gate ∷ others.between = begins.1 in
    let between : ones.between ≡ others.between = cc (same) in
    let goes_on = BeginsWithFrame-one (ordinal + 1) second another ones.more others.more others.between
    (subst (λ (list : List ℕ). BeginsWithFrame (ordinal + 1) second ones.more list) between ones.goes_on)
    others.goes_on in
    (begins.0, goes_on.0)

-- the frames that were found are those of the two groups
pub groups_found : (ordinal : ℕ) (first second bytes : List ℕ)
    → HasTwoFrames ordinal first second bytes
    → HasTwoGroups ordinal bytes
    → SpellsGroup first × SpellsGroup second
groups_found ordinal first second bytes frames groups =
    let same = HasTwoFrames-one ordinal first second groups.first groups.second bytes frames groups.frames in (
      subst SpellsGroup (sym same.0) groups.first_group,
      subst SpellsGroup (sym same.1) groups.second_group,
    )

-- ---- from the bytes that were read to those of the file

-- as many bytes as were asked for, or fewer, are all there are
read_whole : (limit : ℕ) (bytes : List ℕ) → length (take limit bytes) < limit → take limit bytes ≡ bytes
read_whole limit bytes few = take_all limit bytes (omega (arith, few, length-take limit bytes))

-- what was read behind a gate, up to a byte more than an append leaves, tells what remains there
pub AreRemains-read : (gate ordinal : ℕ) (bytes : List ℕ) (found : Remains)
    → AreRemains gate ordinal (take (most_behind + 1) bytes) found
    → AreRemains gate ordinal bytes found
AreRemains-read gate ordinal bytes remains.Nothing none =
    sym (read_whole (most_behind + 1) bytes (omega (arith, ap length none))) ∙ none
AreRemains-read gate ordinal bytes remains.TornAppend torn =
    elim (cases_lt (length (take (most_behind + 1) bytes)) (most_behind + 1)) [
      | inl few ↦ subst (λ (list : List ℕ). (1 ≤ length list) × (IsDamage ordinal list → ⊥))
          (read_whole (most_behind + 1) bytes few) torn
      | inr many ↦ absurd (torn.1 (inl (omega (arith, many))))
    ]
AreRemains-read gate ordinal bytes (remains.Damage place) damage =
    elim (cases_lt (length (take (most_behind + 1) bytes)) (most_behind + 1)) [
      | inl few ↦ (damage.0, subst (IsDamage ordinal) (read_whole (most_behind + 1) bytes few) damage.1)
      | inr many ↦ (damage.0, inl (omega (arith, many, length-take (most_behind + 1) bytes)))
    ]

-- behind the gate of a journal stand the bytes behind its frames and the gate byte
behind_gate : (frames : List ℕ) (gate : ℕ) (bytes : List ℕ) → drop (length frames + 1) (frames ++ gate ∷ bytes) ≡ bytes
behind_gate frames gate bytes =
    ap (λ (list : List ℕ). drop (length frames + 1) list) (sym (append_assoc frames (gate ∷ []) bytes))
    ∙ drop_at (frames ++ gate ∷ []) bytes (length frames + 1) (length_push frames gate)

-- the journal holds payloads, and this is what was read behind its gate
pub HasRemains-held : (payloads : List (List ℕ)) (gate ordinal : ℕ) (read : List ℕ) (past : Past) (found : Remains)
    → Holds payloads gate past
    → length payloads ≡ ordinal
    → read ≡ take (most_behind + 1) (drop (gate + 1) (contents_of past))
    → AreRemains gate ordinal read found
    → HasRemains (contents_of past) found
HasRemains-held payloads gate ordinal read past found holds count read_is remains =
    let bytes : List ℕ = holds.file.rest in
    let behind : drop (gate + 1) (contents_of past) ≡ bytes =
    ap (λ (list : List ℕ). drop (gate + 1) list) holds.file.is
    ∙ ap (λ (place : ℕ). drop (place + 1) (front payloads ++ holds.file.gate ∷ bytes)) (sym holds.place)
    ∙ behind_gate (front payloads) holds.file.gate bytes in
    let here = subst (λ (list : List ℕ). AreRemains gate ordinal (take (most_behind + 1) list) found) behind
    (subst (λ (list : List ℕ). AreRemains gate ordinal list found) read_is remains) in
    record {
      payloads = payloads;
      sizes = holds.file.sizes;
      gate = holds.file.gate;
      bytes = bytes;
      is = holds.file.is;
      closed = holds.file.closed;
      remains = subst (λ (place : ℕ). AreRemains place (length payloads) bytes found) (sym holds.place)
          (subst (λ (number : ℕ). AreRemains gate number bytes found) (sym count)
          (AreRemains-read gate ordinal bytes found here));
    }

-- what a desk read behind its gate is what remains there, where its disk tells it
pub HasRemains-desk : (past : Option Past) (payloads : List (List ℕ)) (doubt : List Entry) (gate ordinal : ℕ)
    (read : List ℕ) (at number : ℕ) (bytes : List ℕ) (found : Remains)
    → doubt ≡ []
    → IfSome past (HoldsAt payloads doubt gate)
    → IfSome past (HoldsSoMany gate ordinal)
    → IfSome past (λ past. AreAt (gate + 1) (most_behind + 1) read (contents_of past))
    → at ≡ gate
    → number ≡ ordinal
    → bytes ≡ read
    → AreRemains at number bytes found
    → IfSome past (λ past. HasRemains (contents_of past) found)
HasRemains-desk None payloads doubt gate ordinal read at number bytes found none holds many read_is
    at_is number_is bytes_are remains = tt
HasRemains-desk (Some past) payloads doubt gate ordinal read at number bytes found none holds many read_is
    at_is number_is bytes_are remains =
    let held = holds_sure payloads doubt gate past none holds in
    HasRemains-held payloads gate ordinal read past found held (many payloads held) read_is
    (subst (λ (list : List ℕ). AreRemains gate ordinal list found) bytes_are
    (subst (λ (n : ℕ). AreRemains gate n bytes found) number_is
    (subst (λ (n : ℕ). AreRemains n number bytes found) at_is remains)))
