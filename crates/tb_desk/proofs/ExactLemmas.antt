-- An opening's answer is the only true one.
use Rattle.std.proofs.Common.{◌≡◌, inl, inr, ℕ, ◌+◌, ◌<◌, ◌≤◌, List, [], ◌∷◌, ◌++◌, length, take, drop, get_or, Option, None, Ok, Err, refl, sym, ◌∙◌, ap, subst, arith, append_assoc, length-take, take-append-drop}
use Rattle.std.specs.Prelude.{IfSome}
use Rattle.std.proofs.lemmas.Bool.{cases_order}
use Rattle.std.proofs.lemmas.List.{length-map, take_all, take-take, take-map, drop_more, append-nil, get_or-map, get_or-take}
use Rattle.std.proofs.lemmas.List.Concat.{flat_map-append}
use Rattle.tb_disk.specs.Past.{Past, contents_of}
use Rattle.tb_disk.specs.Disks.{DiskState}
use Rattle.tb_message.specs.declared.message.Entry.{Entry}
use Rattle.tb_message.specs.declared.version.Version.{Version}
use Rattle.tb_message.specs.declared.version.Version.TheVariants as versions
use Rattle.tb_message.specs.Spelling.{spellings_in}
use Rattle.tb_history.specs.Legal.{IsLegal}
use Rattle.tb_history.proofs.HistoryLemmas.{IsLegal-front}
use Rattle.tb_journal.specs.declared.form.Form.TheVariants.{Second}
use Rattle.tb_journal.specs.Frames.{front_in, IsPayload, ArePayloads}
use Rattle.tb_journal.specs.Image.{StandsFor, StandsIn}
use Rattle.tb_journal.specs.Journal.{Told, Holds}
use Rattle.tb_journal.specs.Opening.{Finds, Opens}
use Rattle.tb_journal.proofs.OpeningLemmas.{breaks_opened}
use Rattle.tb_journal.specs.Answers.{IsTrueIn as IsTrueInJournal, IsExactIn as IsExactInJournal, LeavesRefused as JournalLeaves}
use Rattle.tb_journal.specs.declared.fault.JournalFault.{JournalFault}
use Rattle.tb_journal.specs.declared.fault.JournalFault.TheVariants as journal
use Rattle.tb_journal.proofs.Spelling.{StandsIn-one, StandsIn-journal, StandsIn-whole, IsDamagedIn-journal, IsDamagedIn-one}
use Rattle.tb_journal.proofs.Exactness.{unsealed_stands, unsealed_foreign, unsealed_damaged, unsealed_one}
use Rattle.tb_journal.specs.Places.{ReadsTo}
use Rattle.tb_journal.proofs.ToldLemmas.{known_of, Told-weaker, told_and, told_known, told_before, told_after}
use Rattle.tb_journal.proofs.FrameLemmas.{payload_at}
use Rattle.tb_desk.specs.declared.fault.OpenFault.{OpenFault}
use Rattle.tb_desk.specs.declared.fault.OpenFault.TheVariants as fault
use Rattle.tb_desk.specs.Stands.{joined, form_of, payloads_in, payloads_of, IsGroup, StandsForHistory, StandsForHistoryIn, Stands, HoldsAt}
use Rattle.tb_desk.specs.Replay.{IsBadPayload, IsBadPayloadIn, lifted, Answer, IsTrueIn, SpeaksOfFile, IsExact, IsExactIn, LeavesRefused}
use Rattle.tb_desk.specs.Replaying.{IsReplayed, IsReplayedIn, IsReplayFault, IsReplayFaultIn}
use Rattle.tb_desk.proofs.GroupLemmas.{joined_in-one, StandsForHistoryIn-one}
use Rattle.tb_desk.proofs.ReplayLemmas.{holds_reads}

-- the file stood for payloads, and the disk reads to this place behind them
abbrev pub FindsIn : Version → ℕ → Past → Past → Type 0
FindsIn version gate before now = (payloads : List (List ℕ)) × StandsIn (form_of version) payloads (contents_of before)
    × ReadsTo (form_of version) payloads gate (contents_of now)

module _ (version : Version) where
  -- the payloads of a file are payloads
  stands_sizes : (payloads : List (List ℕ)) (file : List ℕ) → StandsIn (form_of version) payloads file
      → ArePayloads payloads
  stands_sizes payloads file (inl short) = subst ArePayloads (sym short.1) tt
  stands_sizes payloads file (inr long) = long.1.sizes

  -- a payload isn't empty, and so is no group that has it
  group_of : (group : List Entry) (payload : List ℕ) → IsPayload payload → payload ≡ spellings_in version group
      → IsGroup group
  group_of [] payload is same = absurd (omega (arith, is.some, ap length same))
  group_of (entry ∷ entries) payload is same = omega arith

  -- the groups of a list, one of them, and the others
  groups_split : (groups : List (List Entry)) (index : ℕ) → index < length groups
      → joined groups ≡ (joined (take index groups) ++ get_or groups index []) ++ joined (drop (index + 1) groups)
  groups_split groups index within =
      let group : List Entry = get_or groups index [] in
      let behind : List (List Entry) = drop (index + 1) groups in
      ap joined (sym (take-append-drop index groups)
      ∙ ap (λ (gs : List (List Entry)). take index groups ++ gs) (drop_more groups index [] within))
      ∙ (flat_map-append (λ (entries : List Entry). entries) (take index groups) (group ∷ behind)
      ∙ sym (append_assoc (joined (take index groups)) group (joined behind)))

  -- a payload that no group can have isn't among those of a legal history
  clash : (payloads : List (List ℕ)) (place : ℕ) (bad : IsBadPayloadIn version payloads place)
      (groups : List (List Entry))
      (count : ℕ)
      → ArePayloads payloads
      → IsLegal (joined groups)
      → payloads_in version groups ≡ take count payloads
      → length bad.groups < count
      → count ≤ length payloads
      → ⊥
  clash payloads place bad groups count sizes legal read before within =
      let index : ℕ = length bad.groups in
      let long : index < length groups =
      omega (arith, ap length read, length-map groups (spellings_in version), length-take count payloads) in
      let group : List Entry = get_or groups index [] in
      let split = groups_split groups index long in
      let whole : IsLegal ((joined (take index groups) ++ group) ++ joined (drop (index + 1) groups)) =
      subst IsLegal split legal in
      let follows : IsLegal (joined (take index groups) ++ group) =
      IsLegal-front (joined (drop (index + 1) groups)) (joined (take index groups) ++ group) whole in
      let same_payloads : payloads_in version bad.groups ≡ payloads_in version (take index groups) = bad.before
      ∙ (sym (take-take index count payloads (omega (arith, before)))
      ∙ (ap (λ (ps : List (List ℕ)). take index ps) (sym read) ∙ take-map (spellings_in version) index groups)) in
      let same : joined bad.groups ≡ joined (take index groups) =
      joined_in-one version bad.groups (take index groups) bad.legal
      (IsLegal-front group (joined (take index groups)) follows) same_payloads in
      let payload : get_or payloads index [] ≡ spellings_in version group =
      sym (get_or-take count payloads index [] before)
      ∙ (ap (λ (ps : List (List ℕ)). get_or ps index []) (sym read)
      ∙ get_or-map (spellings_in version) groups index [] [] long) in
      let some : IsGroup group = group_of group (get_or payloads index []) (payload_at payloads index sizes bad.within)
      payload in
      bad.bad group some payload
      (subst (λ (entries : List Entry). IsLegal (entries ++ group)) (sym same) follows)

  -- payloads are bad at one place
  bad_one : (payloads : List (List ℕ)) (place other : ℕ) → ArePayloads payloads → IsBadPayloadIn version payloads place
      → IsBadPayloadIn version payloads other → place ≡ other
  bad_one payloads place other sizes bad also = elim (cases_order (length bad.groups) (length also.groups)) [
    | inl same ↦ bad.at
        ∙ (ap (λ (ps : List (List ℕ)). length (front_in (form_of version) ps))
        (bad.before ∙ (ap (λ (n : ℕ). take n payloads) same ∙ sym also.before)) ∙ sym also.at)
    | inr (inl less) ↦ absurd (clash payloads place bad also.groups (length also.groups) sizes also.legal also.before
        less (omega (arith, also.within)))
    | inr (inr more) ↦ absurd (clash payloads other also bad.groups (length bad.groups) sizes bad.legal bad.before more
        (omega (arith, bad.within)))
  ]

  -- a file that stands for a legal history has no bad payload
  found_bad : (file : List ℕ) (history : List Entry) (payloads : List (List ℕ)) (place : ℕ)
      → StandsForHistoryIn version history file
      → IsLegal history → StandsIn (form_of version) payloads file → IsBadPayloadIn version payloads place → ⊥
  found_bad file history payloads place is legal stands bad =
      let same : payloads_in version is.groups ≡ payloads =
      StandsIn-one (form_of version) (payloads_in version is.groups) payloads file is.stands stands in
      clash payloads place bad is.groups (length payloads) (stands_sizes payloads file stands)
      (subst IsLegal (sym is.whole) legal)
      (same ∙ sym (take_all (length payloads) payloads (omega arith))) bad.within (omega arith)

  -- of two true answers that speak of the file both are one
  one_answer : (file : List ℕ) (answer other : Answer) → IsTrueIn version file answer → IsTrueIn version file other
      → SpeaksOfFile other
      → SpeaksOfFile answer
      → answer ≡ other
  one_answer file answer (Err fault.DiskFault) is also speaks here = absurd (speaks.0 refl)
  one_answer file answer (Err fault.OutOfMemory) is also speaks here = absurd (speaks.1 refl)
  one_answer file (Err fault.DiskFault) other is also speaks here = absurd (here.0 refl)
  one_answer file (Err fault.OutOfMemory) other is also speaks here = absurd (here.1 refl)
  one_answer file (Ok history) (Ok others) is also speaks here =
      ap Ok (StandsForHistoryIn-one version file history others is.1 also.1 is.0 also.0)
  one_answer file (Ok history) (Err (fault.NotAJournal found)) is also speaks here =
      absurd (StandsIn-journal (form_of version) (payloads_in version is.0.groups) file found is.0.stands also)
  one_answer file (Ok history) (Err (fault.Unsealed byte)) is also speaks here =
      absurd (unsealed_stands (form_of version) file byte (payloads_in version is.0.groups) also is.0.stands)
  one_answer file (Ok history) (Err (fault.Damaged place)) is (inl frame) speaks here =
      absurd (StandsIn-whole (form_of version) (payloads_in version is.0.groups) file place is.0.stands frame)
  one_answer file (Ok history) (Err (fault.Damaged place)) is (inr (payloads, stands, bad)) speaks here =
      absurd (found_bad file history payloads place is.0 is.1 stands bad)
  one_answer file (Err (fault.NotAJournal found)) (Ok others) is also speaks here =
      absurd (StandsIn-journal (form_of version) (payloads_in version also.0.groups) file found also.0.stands is)
  one_answer file (Err (fault.NotAJournal found)) (Err (fault.NotAJournal seen)) is also speaks here =
      ap (λ (bytes : List ℕ). Err (fault.NotAJournal bytes)) (is.begins ∙ sym also.begins)
  one_answer file (Err (fault.NotAJournal found)) (Err (fault.Unsealed byte)) is also speaks here =
      absurd (unsealed_foreign (form_of version) file byte found also is)
  one_answer file (Err (fault.NotAJournal found)) (Err (fault.Damaged place)) is (inl frame) speaks here =
      absurd (IsDamagedIn-journal (form_of version) file found place frame is)
  one_answer file (Err (fault.NotAJournal found)) (Err (fault.Damaged place)) is (inr (payloads, stands, bad)) speaks
      here =
      absurd (StandsIn-journal (form_of version) payloads file found stands is)
  one_answer file (Err (fault.Unsealed byte)) (Ok others) is also speaks here =
      absurd (unsealed_stands (form_of version) file byte (payloads_in version also.0.groups) is also.0.stands)
  one_answer file (Err (fault.Unsealed byte)) (Err (fault.NotAJournal found)) is also speaks here =
      absurd (unsealed_foreign (form_of version) file byte found is also)
  one_answer file (Err (fault.Unsealed byte)) (Err (fault.Unsealed seen)) is also speaks here =
      ap (λ (one : ℕ). Err (fault.Unsealed one)) (unsealed_one (form_of version) file byte seen is also)
  one_answer file (Err (fault.Unsealed byte)) (Err (fault.Damaged place)) is (inl frame) speaks here =
      absurd (unsealed_damaged (form_of version) file byte place is frame)
  one_answer file (Err (fault.Unsealed byte)) (Err (fault.Damaged place)) is (inr (payloads, stands, bad)) speaks here =
      absurd (unsealed_stands (form_of version) file byte payloads is stands)
  one_answer file (Err (fault.Damaged place)) (Ok others) (inl frame) also speaks here =
      absurd (StandsIn-whole (form_of version) (payloads_in version also.0.groups) file place also.0.stands frame)
  one_answer file (Err (fault.Damaged place)) (Err (fault.NotAJournal found)) (inl frame) also speaks here =
      absurd (IsDamagedIn-journal (form_of version) file found place frame also)
  one_answer file (Err (fault.Damaged place)) (Err (fault.Unsealed byte)) (inl frame) also speaks here =
      absurd (unsealed_damaged (form_of version) file byte place also frame)
  one_answer file (Err (fault.Damaged place)) (Err (fault.Damaged other)) (inl frame) (inl also) speaks here =
      ap (λ (at : ℕ). Err (fault.Damaged at)) (IsDamagedIn-one (form_of version) file place other frame also)
  one_answer file (Err (fault.Damaged place)) (Err (fault.Damaged other)) (inl frame) (inr (payloads, stands, bad))
      speaks here =
      absurd (StandsIn-whole (form_of version) payloads file place stands frame)
  one_answer file (Err (fault.Damaged place)) (Ok others) (inr (payloads, stands, bad)) also speaks here =
      absurd (found_bad file others payloads place also.0 also.1 stands bad)
  one_answer file (Err (fault.Damaged place)) (Err (fault.NotAJournal found)) (inr (payloads, stands, bad)) also speaks
      here =
      absurd (StandsIn-journal (form_of version) payloads file found stands also)
  one_answer file (Err (fault.Damaged place)) (Err (fault.Unsealed byte)) (inr (payloads, stands, bad)) also speaks
      here =
      absurd (unsealed_stands (form_of version) file byte payloads also stands)
  one_answer file (Err (fault.Damaged place)) (Err (fault.Damaged other)) (inr (payloads, stands, bad)) (inl frame)
      speaks here =
      absurd (StandsIn-whole (form_of version) payloads file other stands frame)
  one_answer file (Err (fault.Damaged place)) (Err (fault.Damaged other)) (inr (payloads, stands, bad))
      (inr (others, standing, also)) speaks here =
      ap (λ (at : ℕ). Err (fault.Damaged at))
      (bad_one payloads place other (stands_sizes payloads file stands) bad
      (subst (λ (ps : List (List ℕ)). IsBadPayloadIn version ps other)
      (StandsIn-one (form_of version) others payloads file standing stands)
      also))

  -- a true answer is the only one
  pub IsExact-true : (file : List ℕ) (answer : Answer) → IsTrueIn version file answer → IsExactIn version file answer
  IsExact-true file answer is = record {
    is_true = is;
    only = λ other also speaks here. one_answer file answer other is also speaks here;
  }

  -- what is true of the journal is true of the desk
  lifted_true : (file : List ℕ) (why : JournalFault) → IsTrueInJournal (form_of version) file (Err why)
      → IsTrueIn version file (Err (lifted why))
  lifted_true file journal.DiskFault is = tt
  lifted_true file (journal.NotAJournal found) is = is
  lifted_true file (journal.Unsealed byte) is = is
  lifted_true file (journal.Damaged place) is = inl is
  lifted_true file journal.OutOfMemory is = tt

  -- a refusal of the journal is exact
  pub lifted_exact_in : (past : Option Past) (why : JournalFault)
      → IfSome past (λ p. IsExactInJournal (form_of version) (contents_of p) (Err why))
      → IfSome past (λ p. IsExactIn version (contents_of p) (Err (lifted why)))
  lifted_exact_in past why exact =
      known_of (λ p. IsExactInJournal (form_of version) (contents_of p) (Err why))
      (λ p. IsExactIn version (contents_of p) (Err (lifted why))) past
      (λ p is. IsExact-true (contents_of p) (Err (lifted why)) (lifted_true (contents_of p) why is.is_true)) exact

  -- the history that was found is what the file stood for
  pub found_stands_in : (gate : ℕ) (history : List Entry) (old disk : DiskState) → Told old disk (FindsIn version gate)
      → IsReplayedIn version disk gate history
      → IfSome old.past (λ past. StandsForHistoryIn version history (contents_of past))
  found_stands_in gate history old disk finds replayed =
      told_before (λ before now. StandsForHistoryIn version history (contents_of before))
      (λ past. StandsForHistoryIn version history (contents_of past))
      old disk (λ before now stands. stands)
      (told_known (FindsIn version gate) (λ past. (payloads : List (List ℕ))
      → ReadsTo (form_of version) payloads gate (contents_of past)
      → payloads_in version replayed.groups ≡ payloads)
      (λ before now. StandsForHistoryIn version history (contents_of before)) old disk
      (λ before now found known. record {
        groups = replayed.groups;
        whole = replayed.whole;
        stands = subst (λ (payloads : List (List ℕ)). StandsIn (form_of version) payloads (contents_of before))
            (sym (known found.0 found.2)) found.1;
      }) finds replayed.told)

  -- it is exact
  pub found_exact_in : (gate : ℕ) (history : List Entry) (old disk : DiskState) → Told old disk (FindsIn version gate)
      → IsReplayedIn version disk gate history
      → IfSome old.past (λ past. IsExactIn version (contents_of past) (Ok history))
  found_exact_in gate history old disk finds replayed =
      known_of (λ past. StandsForHistoryIn version history (contents_of past))
      (λ past. IsExactIn version (contents_of past) (Ok history))
      old.past
      (λ past stands. IsExact-true (contents_of past) (Ok history) (stands, replayed.legal))
      (found_stands_in gate history old disk finds replayed)

  -- why a replay was refused, said of the file
  replay_true : (gate : ℕ) (why : OpenFault) (old disk : DiskState) → Told old disk (FindsIn version gate)
      → IsReplayFaultIn version disk gate why
      → Told old disk (λ before now. IsTrueIn version (contents_of before) (Err why))
  replay_true gate (fault.Damaged place) old disk finds bad =
      told_known (FindsIn version gate) (λ past. (payloads : List (List ℕ))
      → ReadsTo (form_of version) payloads gate (contents_of past)
      → IsBadPayloadIn version payloads place)
      (λ before now. IsTrueIn version (contents_of before) (Err (fault.Damaged place))) old disk
      (λ before now found known. inr (found.0, found.1, known found.0 found.2)) finds bad
  replay_true gate (fault.NotAJournal found) old disk finds bad = absurd bad
  replay_true gate (fault.Unsealed byte) old disk finds bad = absurd bad
  replay_true gate fault.DiskFault old disk finds bad =
      Told-weaker (FindsIn version gate) (λ before now. IsTrueIn version (contents_of before) (Err fault.DiskFault))
      old disk (λ before now found. tt) finds
  replay_true gate fault.OutOfMemory old disk finds bad =
      Told-weaker (FindsIn version gate) (λ before now. IsTrueIn version (contents_of before) (Err fault.OutOfMemory))
      old disk (λ before now found. tt) finds

  -- it is exact
  pub replay_exact_in : (gate : ℕ) (why : OpenFault) (old disk : DiskState) → Told old disk (FindsIn version gate)
      → IsReplayFaultIn version disk gate why → IfSome old.past (λ past. IsExactIn version (contents_of past) (Err why))
  replay_exact_in gate why old disk finds bad =
      told_before (λ before now. IsTrueIn version (contents_of before) (Err why))
      (λ past. IsExactIn version (contents_of past) (Err why))
      old disk
      (λ before now is. IsExact-true (contents_of before) (Err why) is) (replay_true gate why old disk finds bad)

-- it leaves the disk as the journal leaves it
pub lifted_leaves : (why : JournalFault) (old new : DiskState) → Told old new (JournalLeaves why)
    → Told old new (LeavesRefused (lifted why))
lifted_leaves why old new = Told-weaker (JournalLeaves why) (LeavesRefused (lifted why)) old new (go why)
  where
    go : (why : JournalFault) (before now : Past) → JournalLeaves why before now → LeavesRefused (lifted why) before now
    go journal.DiskFault before now leaves = leaves
    go (journal.NotAJournal found) before now leaves = leaves
    go (journal.Unsealed byte) before now leaves = leaves
    go (journal.Damaged place) before now leaves = leaves
    go journal.OutOfMemory before now leaves = leaves

-- a refusal of the journal is exact
pub lifted_exact : (past : Option Past) (why : JournalFault)
    → IfSome past (λ p. IsExactInJournal Second (contents_of p) (Err why))
    → IfSome past (λ p. IsExact (contents_of p) (Err (lifted why)))
lifted_exact past why exact = lifted_exact_in versions.Second past why exact

-- what an opening of the second version finds
finds_second : (gate : ℕ) (old disk : DiskState) → Told old disk (Finds gate)
    → Told old disk (FindsIn versions.Second gate)
finds_second gate old disk = Told-weaker (Finds gate) (FindsIn versions.Second gate) old disk
    (λ before now found. (found.0, found.1, holds_reads found.0 gate now found.2))

-- the history that was found is what the file stood for
pub found_history : (gate : ℕ) (history : List Entry) (old disk : DiskState) → Told old disk (Finds gate)
    → IsReplayed disk gate history → IfSome old.past (λ past. StandsForHistory history (contents_of past))
found_history gate history old disk finds replayed = found_stands_in versions.Second gate history old disk
    (finds_second gate old disk finds) replayed

-- it is exact
pub found_exact : (gate : ℕ) (history : List Entry) (old disk : DiskState) → Told old disk (Finds gate)
    → IsReplayed disk gate history → IfSome old.past (λ past. IsExact (contents_of past) (Ok history))
found_exact gate history old disk finds replayed = found_exact_in versions.Second gate history old disk
    (finds_second gate old disk finds) replayed

-- and so is a refusal
pub replay_exact : (gate : ℕ) (why : OpenFault) (old disk : DiskState) → Told old disk (Finds gate)
    → IsReplayFault disk gate why → IfSome old.past (λ past. IsExact (contents_of past) (Err why))
replay_exact gate why old disk finds bad = replay_exact_in versions.Second gate why old disk
    (finds_second gate old disk finds) bad

-- a file with a bad payload is longer than an empty journal
long_file : (payloads : List (List ℕ)) (file : List ℕ) (place : ℕ) → StandsFor payloads file
    → IsBadPayload payloads place
    → 18 < length file
long_file payloads file place (inl short) bad = absurd (omega (arith, bad.within, ap length short.1))
long_file payloads file place (inr long) bad = long.0

-- a refusal of the replay leaves the file synced
pub replay_leaves : (gate : ℕ) (why : OpenFault) (old disk : DiskState) → Told old disk (Finds gate)
    → Told old disk Opens
    → IsReplayFault disk gate why → Told old disk (LeavesRefused why)
replay_leaves gate (fault.Damaged place) old disk finds opens bad =
    told_and Opens (λ before now. 18 < length (contents_of before)) (LeavesRefused (fault.Damaged place)) old disk
    (λ before now opened long. opened.kept long) opens
    (told_known (Finds gate) (λ past. (payloads : List (List ℕ)) → ReadsTo Second payloads gate (contents_of past)
    → IsBadPayload payloads place)
    (λ before now. 18 < length (contents_of before)) old disk
    (λ before now found known. long_file found.0 (contents_of before) place found.1
    (known found.0 (holds_reads found.0 gate now found.2))) finds bad)
replay_leaves gate (fault.NotAJournal found) old disk finds opens bad = absurd bad
replay_leaves gate (fault.Unsealed byte) old disk finds opens bad = absurd bad
replay_leaves gate fault.DiskFault old disk finds opens bad = breaks_opened old disk opens
replay_leaves gate fault.OutOfMemory old disk finds opens bad = breaks_opened old disk opens

-- what the journal holds
holds_opened : (gate : ℕ) (history : List Entry) (old disk : DiskState) (replayed : IsReplayed disk gate history)
    → Told old disk (Finds gate) → IfSome disk.past (HoldsAt (payloads_of replayed.groups) [] gate)
holds_opened gate history old disk replayed finds =
    told_after (λ before now. Holds (payloads_of replayed.groups) gate now)
    (HoldsAt (payloads_of replayed.groups) [] gate) old disk
    (λ before now holds. holds)
    (told_known (Finds gate) (λ past. (payloads : List (List ℕ)) → ReadsTo Second payloads gate (contents_of past)
    → payloads_of replayed.groups ≡ payloads)
    (λ before now. Holds (payloads_of replayed.groups) gate now) old disk
    (λ before now found known. subst (λ (payloads : List (List ℕ)). Holds payloads gate now)
    (sym (known found.0 (holds_reads found.0 gate now found.2))) found.2)
    finds replayed.told)

-- a desk on the journal that was opened and read
pub Stands-opened : (gate : ℕ) (history : List Entry) (old disk now : DiskState) → now.past ≡ disk.past
    → Told old disk (Finds gate) → IsReplayed disk gate history → Stands now gate None history []
Stands-opened gate history old disk now same finds replayed = record {
  groups = replayed.groups;
  whole = replayed.whole;
  sizes = replayed.sizes;
  place = replayed.place;
  next_place = refl;
  legal = replayed.legal;
  accepted = subst IsLegal (sym (append-nil history)) replayed.legal;
  told = subst (λ (past : Option Past). IfSome past (HoldsAt (payloads_of replayed.groups) [] gate)) (sym same)
      (holds_opened gate history old disk replayed finds);
}
