-- What a crash during a turn leaves, and how the history grows.
use Rattle.std.proofs.Common.{◌≡◌, ◌⊎◌, inl, inr, ℕ, ◌≤◌, List, [], ◌++◌, length, ap, sym, ◌∙◌, subst, arith, append_assoc, length-append}
use Rattle.std.proofs.lemmas.List.{append-nil}
use Rattle.tb_disk.specs.Past.{Leaves}
use Rattle.tb_disk.specs.Disks.{DiskState}
use Rattle.tb_disk.proofs.Moments.{Leaves-weaker, Leaves-both}
use Rattle.tb_journal.proofs.ToldLemmas.{Told-both, Told-weaker}
use Rattle.tb_message.specs.declared.message.Entry.{Entry}
use Rattle.tb_desk.specs.Stands.{StandsForHistory, StandsForEither, CrashesLeave}
use Rattle.tb_desk.specs.Turn.{Held, Asked, Replies, group, Resolves, IsTurn, IsOneOf}
use Rattle.tb_desk.proofs.StepLemmas.{either_none}

-- what leaves less leaves no more
pub CrashesLeave-weaker : (P Q : List ℕ → Type 0) (old new : DiskState) → ((file : List ℕ) → P file → Q file)
    → CrashesLeave P old new → CrashesLeave Q old new
CrashesLeave-weaker P Q old new weaker leaves =
    Told-weaker (λ before now. Leaves P before now) (λ before now. Leaves Q before now) old new
    (λ before now. Leaves-weaker P Q before now weaker) leaves

-- one call after another
pub CrashesLeave-both : (P : List ℕ → Type 0) (old mid new : DiskState) → CrashesLeave P old mid
    → CrashesLeave P mid new
    → CrashesLeave P old new
CrashesLeave-both P old mid new first second =
    Told-both (λ before now. Leaves P before now) (λ before now. Leaves P before now)
    (λ before now. Leaves P before now)
    old mid new (λ before between now. Leaves-both P before between now) first second

-- no entry was added
pub crash-kept : (history : List Entry) (held : Held) (old new : DiskState)
    → CrashesLeave (StandsForEither history []) old new
    → CrashesLeave (IsOneOf (record { history = history; doubt = [] }) held) old new
crash-kept history held old new leaves =
    CrashesLeave-weaker (StandsForEither history []) (IsOneOf (record { history = history; doubt = [] }) held) old new
    (λ file stands. inl stands) leaves

-- a group was added, or is in doubt
pub crash-grown : (history added after doubt : List Entry) (old new : DiskState)
    → ((after ≡ history ++ added) × (doubt ≡ [])) ⊎ ((after ≡ history) × (doubt ≡ added))
    → CrashesLeave (StandsForEither history added) old new
    → CrashesLeave (IsOneOf (record { history = history; doubt = [] }) (record { history = after; doubt = doubt })) old
    new
crash-grown history added after doubt old new (inl grown) leaves =
    CrashesLeave-weaker (StandsForEither history added)
    (IsOneOf (record { history = history; doubt = [] }) (record { history = after; doubt = doubt })) old new
    (λ file stands. elim stands [
      | inl without ↦ inl (inl without)
      | inr with ↦ inr (inl (subst (λ (entries : List Entry). StandsForHistory entries file) (sym grown.0) with))
    ]) leaves
crash-grown history added after doubt old new (inr unsure) leaves =
    CrashesLeave-weaker (StandsForEither history added)
    (IsOneOf (record { history = history; doubt = [] }) (record { history = after; doubt = doubt })) old new
    (λ file stands. elim stands [
      | inl without ↦ inl (inl without)
      | inr with ↦ inr (inr (subst (λ (entries : List Entry). StandsForHistory entries file)
          (ap (λ (entries : List Entry). entries ++ added) (sym unsure.0)
          ∙ ap (λ (entries : List Entry). after ++ entries) (sym unsure.1)) with))
    ]) leaves

-- the history after a resolve is the one before it, or that and the group in doubt
stand_resolved : (gate : ℕ) (disk : DiskState) (held : Held) (at : List Entry) (file : List ℕ)
    → Resolves gate disk held at
    → StandsForHistory at file → StandsForEither held.history held.doubt file
stand_resolved gate disk held at file resolves stands = elim resolves.0 [
  | inl dropped ↦ inl (subst (λ (entries : List Entry). StandsForHistory entries file) dropped stands)
  | inr counts ↦ inr (subst (λ (entries : List Entry). StandsForHistory entries file) counts stands)
]

-- both steps of a turn
pub crash-turn : (gate : ℕ) (disk : DiskState) (held after : Held) (at : List Entry) (old mid new : DiskState)
    → Resolves gate disk held at
    → CrashesLeave (StandsForEither held.history held.doubt) old mid
    → CrashesLeave (IsOneOf (record { history = at; doubt = [] }) after) mid new
    → CrashesLeave (IsOneOf held after) old new
crash-turn gate disk held after at old mid new resolves first second =
    CrashesLeave-both (IsOneOf held after) old mid new
    (CrashesLeave-weaker (StandsForEither held.history held.doubt) (IsOneOf held after) old mid
    (λ file stands. inl stands) first)
    (CrashesLeave-weaker (IsOneOf (record { history = at; doubt = [] }) after) (IsOneOf held after) mid new
    (λ file stands. elim stands [
      | inl early ↦ inl (stand_resolved gate disk held at file resolves (either_none at file early))
      | inr late ↦ inr late
    ]) second)

-- only the first step was made
pub crash-stuck : (held after : Held) (old new : DiskState) → CrashesLeave (StandsForEither held.history held.doubt) old
    new
    → CrashesLeave (IsOneOf held after) old new
crash-stuck held after old new leaves =
    CrashesLeave-weaker (StandsForEither held.history held.doubt) (IsOneOf held after) old new
    (λ file stands. inl stands) leaves

-- a history only grows
abbrev pub Grows : List Entry → List Entry → Type 0
Grows history after = (more : List Entry) × (after ≡ history ++ more)

-- it may stay as it is
pub Grows-not : (history after : List Entry) → after ≡ history → Grows history after
Grows-not history after is = ([], is ∙ sym (append-nil history))

-- twice grown is grown
Grows-both : (a b c : List Entry) → Grows a b → Grows b c → Grows a c
Grows-both a b c first second = (
  first.0 ++ second.0,
  second.1 ∙ (ap (λ (entries : List Entry). entries ++ second.0) first.1 ∙ append_assoc a first.0 second.0),
)

-- it grows by what was in doubt
Grows-resolved : (gate : ℕ) (disk : DiskState) (held : Held) (at : List Entry) → Resolves gate disk held at
    → Grows held.history at
Grows-resolved gate disk held at resolves = elim resolves.0 [
  | inl dropped ↦ Grows-not held.history at dropped
  | inr counts ↦ (held.doubt, counts)
]

-- and by the group of a turn
pub Grows-turn : (gate : ℕ) (disk : DiskState) (asked : Asked) (held after : Held) (replies : Replies) (at : List Entry)
    → IsTurn gate disk asked held after replies at → Grows held.history after.history
Grows-turn gate disk asked held after replies at (inl stuck) =
    Grows-not held.history after.history (ap (λ (state : Held). state.history) stuck.0.same)
Grows-turn gate disk asked held after replies at (inr (resolves, inl answered)) =
    Grows-both held.history at after.history (Grows-resolved gate disk held at resolves)
    (group at asked, answered.grown)
Grows-turn gate disk asked held after replies at (inr (resolves, inr doubted)) =
    Grows-both held.history at after.history (Grows-resolved gate disk held at resolves)
    (Grows-not at after.history doubted.same)

-- it is no shorter then
pub length-grows : (history after : List Entry) → Grows history after → length history ≤ length after
length-grows history after grows = omega (arith, ap length grows.1, length-append history grows.0)
