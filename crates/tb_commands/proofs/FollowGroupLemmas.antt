-- What `follow send` writes, group by group.
use Rattle.std.proofs.Common.{◌≡◌, inl, inr, ℕ, ◌+◌, ◌<◌, ◌≤◌, List, ◌++◌, length, take, drop, ap, sym, ◌∙◌, subst, arith, append_assoc, length-append, length-take, take-append-drop}
use Rattle.std.specs.Prelude.{Option, Ok, Err, IfSome}
use Rattle.std.specs.List.{All}
use Rattle.std.proofs.lemmas.Grind.{flat_map-append}
use Rattle.std.proofs.lemmas.List.{take_all}
use Rattle.tb_link.specs.Sinks.{SinkState, TakesPrefix, after_taken}
use Rattle.tb_disk.specs.Disks.{DiskState}
use Rattle.tb_disk.specs.Past.{Past}
use Rattle.tb_journal.specs.Places.{StandsBetween}
use Rattle.tb_journal.proofs.ToldLemmas.{known_both, known_of}
use Rattle.tb_core.specs.declared.host.Host.{Host}
use Rattle.tb_message.specs.declared.message.Entry.{Entry}
use Rattle.tb_message.specs.Spelling.{IsInRange, spellings}
use Rattle.tb_desk.specs.Desks.{DeskView, IsRead}
use Rattle.tb_desk.specs.Stands.{IsGroup, joined}
use Rattle.tb_desk.specs.Walking.{GivesGroup, IsBehind}
use Rattle.tb_commands.specs.FollowSendRun.{parcels_at, sent_bytes, sent_of}
use Rattle.tb_commands.specs.FollowSteps.{SendsGroup}
use Rattle.tb_commands.specs.declared.follow_send_command.GroupFault.TheVariants as fault
use Rattle.tb_commands.proofs.FollowSendLemmas.{parcels_at-append, sent_of-append}
use Rattle.tb_commands.proofs.ScriptLemmas.{after_taken-more}

-- what was read twice was read
pub IsRead-both : {D : Type 0} (old mid new : DeskView D) → IsRead old mid → IsRead mid new → IsRead old new
IsRead-both old mid new first then = record {
  opened = then.opened ∙ first.opened;
  host = then.host ∙ first.host;
  doubt = then.doubt ∙ first.doubt;
  gate = then.gate ∙ first.gate;
  recovered = then.recovered ∙ first.recovered;
  faults = then.faults ∙ first.faults;
  doubted = then.doubted ∙ first.doubted;
}

-- no more entries stand behind a group than bytes before the place behind it
pub behind_next : (gate at before behind size next : ℕ)
    → before ≤ at
    → before < behind
    → behind ≤ before + size
    → StandsBetween gate at size next
    → behind ≤ next
behind_next gate at before behind size next low more few between = elim between [
  | inl stands ↦ omega (arith, low, few, stands.2)
  | inr none ↦ absurd (omega (arith, more, few, none.0))
]

-- no more entries stand before a place than the history has
behind_within : (history : List Entry) (gate place before : ℕ) (past : Past)
    → IsBehind history gate place before past
    → before ≤ length history
behind_within history gate place before past behind =
    let parts : joined (take behind.count behind.groups) ++ joined (drop behind.count behind.groups) ≡ history =
    sym (flat_map-append (λ (group : List Entry). group) (take behind.count behind.groups)
    (drop behind.count behind.groups))
    ∙ ap joined (take-append-drop behind.count behind.groups) ∙ behind.whole in
    omega (
      arith,
      ap length parts,
      length-append (joined (take behind.count behind.groups)) (joined (drop behind.count behind.groups)),
      behind.entries,
    )

module _ (from : ℕ) (history : List Entry) where
  -- what is sent of so many entries
  abbrev pub sent_before : ℕ → List ℕ
  sent_before count = sent_of from (parcels_at 0 (take count history))

  -- and of a group behind them
  sent_before-more : (before : ℕ) (group : List Entry)
      → before ≤ length history
      → take (before + length group) history ≡ take before history ++ group
      → sent_before (before + length group) ≡ sent_before before ++ sent_of from (parcels_at before group)
  sent_before-more before group within goes_on =
      let size : 0 + length (take before history) ≡ before = omega (arith, within, length-take before history) in
      ap (λ (entries : List Entry). sent_of from (parcels_at 0 entries)) goes_on
      ∙ ap (sent_of from) (parcels_at-append 0 (take before history) group)
      ∙ sent_of-append from (parcels_at 0 (take before history)) _
      ∙ ap (λ (n : ℕ). sent_before before ++ sent_of from (parcels_at n group)) size

  -- what is sent of all begins with what is sent of the first
  sent_before-all : (count : ℕ) → (rest : List ℕ) × (sent_bytes from history ≡ sent_before count ++ rest)
  sent_before-all count = (
    sent_of from (parcels_at (0 + length (take count history)) (drop count history)),
    ap (λ (entries : List Entry). sent_of from (parcels_at 0 entries)) (sym (take-append-drop count history))
        ∙ ap (sent_of from) (parcels_at-append 0 (take count history) (drop count history))
        ∙ sent_of-append from (parcels_at 0 (take count history)) _,
  )

  -- so a beginning of what is sent of the first is one of all
  prefix_of-all : (count : ℕ) (out out' : SinkState)
      → TakesPrefix out out' (sent_before count)
      → TakesPrefix out out' (sent_bytes from history)
  prefix_of-all count out out' taken =
      let all = sent_before-all count in (
        taken.0,
        taken.1 ++ all.0,
        all.1 ∙ ap (λ (bytes : List ℕ). bytes ++ all.0) taken.2 ∙ append_assoc taken.0 taken.1 all.0,
        taken.3,
      )

  -- what was written up to a place, where the disk tells its contents
  abbrev pub WroteTo : ℕ → ℕ → ℕ → SinkState → SinkState → Past → Type 0
  WroteTo gate at before out mid past =
      IsBehind history gate at before past × (mid.taken ≡ after_taken out.taken (sent_before before))

  module _ (gate at before next : ℕ) (payload : List ℕ) (out mid new : SinkState) (past : Past)
      (wrote : WroteTo gate at before out mid past)
      (gives : (n : ℕ) → IsBehind history gate at n past → GivesGroup history gate n payload next past) where
    group_here : GivesGroup history gate before payload next past
    group_here = gives before wrote.0

    within : before ≤ length history
    within = behind_within history gate at before past wrote.0

    -- a group more
    wrote_more : (behind : ℕ)
        → ((group : List Entry) → IsGroup group → All IsInRange group → payload ≡ spellings group
        → SendsGroup from before group (Ok behind) mid new)
        → WroteTo gate next behind out new past
    wrote_more behind sends =
        let given = group_here in
        let sent = sends given.group given.some given.in_range given.is in
        let place : before + length given.group ≡ behind = sym sent.0 in (
          subst (λ (n : ℕ). IsBehind history gate next n past) place given.behind,
          sent.1
              ∙ ap (λ (t : Option (List ℕ)). after_taken t (sent_of from (parcels_at before given.group))) wrote.1
              ∙ after_taken-more out.taken (sent_before before) (sent_of from (parcels_at before given.group))
              ∙ ap (after_taken out.taken)
              (sym (sent_before-more before given.group within given.goes_on) ∙ ap sent_before place),
        )

    -- a part of a group more
    wrote_part : ((group : List Entry) → IsGroup group → All IsInRange group → payload ≡ spellings group
        → SendsGroup from before group (Err fault.Write) mid new)
        → TakesPrefix out new (sent_bytes from history)
    wrote_part sends =
        let given = group_here in
        let sent = sends given.group given.some given.in_range given.is in
        prefix_of-all (before + length given.group) out new (
          sent_before before ++ sent.0,
          sent.1,
          sent_before-more before given.group within given.goes_on
              ∙ ap (λ (bytes : List ℕ). sent_before before ++ bytes) sent.2
              ∙ sym (append_assoc (sent_before before) sent.0 sent.1),
          sent.3
              ∙ ap (λ (t : Option (List ℕ)). after_taken t sent.0) wrote.1
              ∙ after_taken-more out.taken (sent_before before) sent.0,
        )

  -- all was written
  wrote_all : (gate at before : ℕ) (out new : SinkState) (past : Past)
      → WroteTo gate at before out new past
      → ((n : ℕ) → IsBehind history gate at n past → n ≡ length history)
      → new.taken ≡ after_taken out.taken (sent_bytes from history)
  wrote_all gate at before out new past wrote all =
      wrote.1 ∙ ap (λ (entries : List Entry). after_taken out.taken (sent_of from (parcels_at 0 entries)))
      (take_all before history (omega (arith, all before wrote.0)))

  -- what was written so far is a beginning of all
  wrote_beginning : (gate at before : ℕ) (out new : SinkState) (past : Past)
      → WroteTo gate at before out new past
      → TakesPrefix out new (sent_bytes from history)
  wrote_beginning gate at before out new past wrote =
      let all = sent_before-all before in (sent_before before, all.0, all.1, wrote.1)

module _ {D : Type 0} (seen : D → DiskState) (first now : DeskView D) (from at before : ℕ) (out mid : SinkState)
    (read : IsRead first now)
    (kept : (seen now.disk).past ≡ (seen first.disk).past)
    (wrote : IfSome (seen first.disk).past (WroteTo from first.host.history first.gate at before out mid)) where
  -- what is so of the disk as it was read is so of it as it was
  back : (P : List Entry → ℕ → Past → Type 0)
      → IfSome (seen now.disk).past (P now.host.history now.gate)
      → IfSome (seen first.disk).past (P first.host.history first.gate)
  back P holds =
      let gate = subst (λ (g : ℕ). IfSome (seen now.disk).past (P now.host.history g)) read.gate holds in
      let host = subst (λ (h : Host). IfSome (seen now.disk).past (P h.history first.gate)) read.host gate in
      subst (λ (past : Option Past). IfSome past (P first.host.history first.gate)) kept host

  module _ (next : ℕ) (payload : List ℕ) (new : SinkState)
      (gives : IfSome (seen now.disk).past (λ past. (n : ℕ)
      → IsBehind now.host.history now.gate at n past
      → GivesGroup now.host.history now.gate n payload next past)) where
    abbrev Gives : List Entry → ℕ → Past → Type 0
    Gives history gate past =
        (n : ℕ) → IsBehind history gate at n past → GivesGroup history gate n payload next past

    -- a group more was written
    pub groups-more : (behind : ℕ)
        → ((group : List Entry) → IsGroup group → All IsInRange group → payload ≡ spellings group
        → SendsGroup from before group (Ok behind) mid new)
        → IfSome (seen first.disk).past (WroteTo from first.host.history first.gate next behind out new)
    groups-more behind sends =
        known_both _ (Gives first.host.history first.gate) _ (seen first.disk).past
        (λ past told given. wrote_more from first.host.history first.gate at before next payload out mid new past told
        given behind sends) wrote (back Gives gives)

    -- a part of one
    pub groups-part : ((group : List Entry) → IsGroup group → All IsInRange group → payload ≡ spellings group
        → SendsGroup from before group (Err fault.Write) mid new)
        → IfSome (seen first.disk).past (λ past. TakesPrefix out new (sent_bytes from first.host.history))
    groups-part sends =
        known_both _ (Gives first.host.history first.gate) _ (seen first.disk).past
        (λ past told given. wrote_part from first.host.history first.gate at before next payload out mid new past told
        given sends) wrote (back Gives gives)

    -- a group can be read
    pub groups-read : ((group : List Entry) → IsGroup group → All IsInRange group → payload ≡ spellings group
        → SendsGroup from before group (Err fault.Unreadable) mid new)
        → IfSome (seen first.disk).past (λ past. ⊥)
    groups-read sends =
        known_both _ (Gives first.host.history first.gate) _ (seen first.disk).past
        (λ past told given.
        let group = given before told.0 in sends group.group group.some group.in_range group.is)
        wrote (back Gives gives)

  -- there is no group more
  pub groups-all : IfSome (seen now.disk).past (λ past. (n : ℕ)
      → IsBehind now.host.history now.gate at n past
      → n ≡ length now.host.history)
      → IfSome (seen first.disk).past
      (λ past. mid.taken ≡ after_taken out.taken (sent_bytes from first.host.history))
  groups-all all =
      known_both _ (λ past. (n : ℕ) → IsBehind first.host.history first.gate at n past → n ≡ length first.host.history)
      _ (seen first.disk).past
      (λ past told none. wrote_all from first.host.history first.gate at before out mid past told none) wrote
      (back (λ history gate past. (n : ℕ) → IsBehind history gate at n past → n ≡ length history) all)

  -- the next one wasn't read
  pub groups-beginning : IfSome (seen first.disk).past
      (λ past. TakesPrefix out mid (sent_bytes from first.host.history))
  groups-beginning =
      known_of _ _ (seen first.disk).past
      (λ past told. wrote_beginning from first.host.history first.gate at before out mid past told) wrote
