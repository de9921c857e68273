-- What each step does to what the disk stands for.
use Rattle.std.proofs.Common.{◌≡◌, ◌↔◌, inl, inr, ℕ, ◌+◌, ◌≤◌, Bool, true, false, cond, List, [], ◌∷◌, ◌++◌, length, slice_index, Option, Some, None, refl, ap, sym, ◌∙◌, subst, arith, true≢false}
use Rattle.std.specs.Prelude.{IfSome, IsTrue}
use Rattle.std.proofs.lemmas.Bool.{eq-eqb, eqb-true, cases_Bool}
use Rattle.std.proofs.lemmas.List.{append-nil}
use Rattle.tb_disk.specs.Past.{Past, contents_of, Leaves}
use Rattle.tb_disk.specs.Disks.{DiskState}
use Rattle.tb_disk.proofs.Moments.{Leaves-start, Leaves-weaker}
use Rattle.tb_message.specs.declared.message.Entry.{Entry}
use Rattle.tb_message.specs.Spelling.{spellings}
use Rattle.tb_history.specs.Legal.{IsLegal}
use Rattle.tb_journal.specs.Image.{StandsFor}
use Rattle.tb_journal.specs.Journal.{Told, Holds, InDoubt, WithOrWithout, Settles, StaysInDoubt, LeavesInDoubt, Adds, Doubts, LeavesOldOrNew}
use Rattle.tb_journal.proofs.Calls.{held_stays}
use Rattle.tb_journal.proofs.ToldLemmas.{known_of, told_now, told_given}
use Rattle.tb_desk.specs.Stands.{joined, payloads_of, StandsForHistory, StandsForEither, CrashesLeave, is_open, gate_behind, HoldsAt, Stands}
use Rattle.tb_message.specs.declared.message.Message.{Message}
use Rattle.tb_desk.specs.Turn.{Resolves, messages_of}
use Rattle.tb_desk.proofs.GroupLemmas.{joined-push, payloads-push, sizes-push, front-push}

-- the payloads are a history
stands_whole : (groups : List (List Entry)) (history : List Entry) (file : List ℕ) → joined groups ≡ history
    → StandsFor (payloads_of groups) file → StandsForHistory history file
stands_whole groups history file whole stands = record { groups = groups; whole = whole; stands = stands }

-- the payloads with one more are a history with one group more
stands_more : (groups : List (List Entry)) (history group : List Entry) (file : List ℕ) → joined groups ≡ history
    → StandsFor (payloads_of groups ++ spellings group ∷ []) file → StandsForHistory (history ++ group) file
stands_more groups history group file whole stands = record {
  groups = groups ++ group ∷ [];
  whole = joined-push groups group ∙ ap (λ (entries : List Entry). entries ++ group) whole;
  stands = subst (λ (payloads : List (List ℕ)). StandsFor payloads file) (sym (payloads-push groups group)) stands;
}

-- with the payload or without it
pub either_stands : (groups : List (List Entry)) (history group : List Entry) (file : List ℕ) → joined groups ≡ history
    → WithOrWithout (payloads_of groups) (spellings group) file → StandsForEither history group file
either_stands groups history group file whole (inl without) = inl (stands_whole groups history file whole without)
either_stands groups history group file whole (inr with) = inr (stands_more groups history group file whole with)

-- without a group in doubt a file stands for the history alone
pub either_none : (history : List Entry) (file : List ℕ) → StandsForEither history [] file
    → StandsForHistory history file
either_none history file (inl stands) = stands
either_none history file (inr stands) = subst (λ (entries : List Entry). StandsForHistory entries file)
    (append-nil history) stands

-- what a journal knows of a group in doubt
pub in_doubt : (groups : List (List Entry)) (doubt : List Entry) (gate : ℕ) (past : Past) → 1 ≤ length doubt
    → HoldsAt (payloads_of groups) doubt gate past
    → InDoubt (payloads_of groups) (spellings doubt) gate (gate + 13 + length (spellings doubt)) past
in_doubt groups [] gate past some holds = absurd (omega (arith, some))
in_doubt groups (entry ∷ entries) gate past some holds = holds

-- and the same said of it
pub put_doubt : (groups : List (List Entry)) (doubt : List Entry) (gate : ℕ) (past : Past) → 1 ≤ length doubt
    → InDoubt (payloads_of groups) (spellings doubt) gate (gate + 13 + length (spellings doubt)) past
    → HoldsAt (payloads_of groups) doubt gate past
put_doubt groups [] gate past some doubts = absurd (omega (arith, some))
put_doubt groups (entry ∷ entries) gate past some doubts = doubts

-- where the gate will be
pub gate_behind-some : (gate : ℕ) (doubt : List Entry) → 1 ≤ length doubt
    → gate_behind gate doubt ≡ Some (gate + 13 + length (spellings doubt))
gate_behind-some gate [] some = absurd (omega (arith, some))
gate_behind-some gate (entry ∷ entries) some = refl

-- where nothing is in doubt and nothing happens
pub crash-none : (disk : DiskState) (gate : ℕ) (next : Option ℕ) (history group : List Entry)
    → Stands disk gate next history [] → CrashesLeave (StandsForEither history group) disk disk
crash-none disk gate next history group stands = record {
  silent = λ is. is;
  told = λ before is.
      let holds : Holds (payloads_of stands.groups) gate before =
      subst (λ (past : Option Past). IfSome past (HoldsAt (payloads_of stands.groups) [] gate)) is stands.told in (
        before,
        is,
        Leaves-start (StandsForEither history group) before
            (λ file may. inl (stands_whole stands.groups history file stands.whole
            (held_stays (payloads_of stands.groups) gate before holds file may))),
      );
}

module _ (old new : DiskState) (gate : ℕ) (next : Option ℕ) (history doubt : List Entry) (some : 1 ≤ length doubt)
    (stands : Stands old gate next history doubt) where
  -- the next place
  pub next_is : next ≡ Some (gate + 13 + length (spellings doubt))
  next_is = stands.next_place ∙ gate_behind-some gate doubt some

  -- what is known of the group in doubt
  pub doubt_known : IfSome old.past (InDoubt (payloads_of stands.groups) (spellings doubt) gate
      (gate + 13 + length (spellings doubt)))
  doubt_known = known_of (HoldsAt (payloads_of stands.groups) doubt gate)
      (InDoubt (payloads_of stands.groups) (spellings doubt) gate (gate + 13 + length (spellings doubt))) old.past
      (λ past holds. in_doubt stands.groups doubt gate past some holds) stands.told

  -- a resolve that failed
  pub Stands-still : Told old new (StaysInDoubt gate (gate + 13 + length (spellings doubt)))
      → Stands new gate next history doubt
  Stands-still still = record {
    groups = stands.groups;
    whole = stands.whole;
    sizes = stands.sizes;
    place = stands.place;
    next_place = stands.next_place;
    legal = stands.legal;
    accepted = stands.accepted;
    told = told_now (StaysInDoubt gate (gate + 13 + length (spellings doubt)))
        (InDoubt (payloads_of stands.groups) (spellings doubt) gate (gate + 13 + length (spellings doubt)))
        (HoldsAt (payloads_of stands.groups) doubt gate) old new
        (λ before now follows known. put_doubt stands.groups doubt gate now some
        (follows (payloads_of stands.groups) (spellings doubt) known)) still doubt_known;
  }

  -- the group counts
  pub Stands-counts : Told old new (Settles gate (gate + 13 + length (spellings doubt))
      (gate + 13 + length (spellings doubt)) true)
      → Stands new (gate + 13 + length (spellings doubt)) None (history ++ doubt) []
  Stands-counts settled =
      let groups : List (List Entry) = stands.groups ++ doubt ∷ [] in
      record {
        groups = groups;
        whole = joined-push stands.groups doubt ∙ ap (λ (entries : List Entry). entries ++ doubt) stands.whole;
        sizes = sizes-push stands.groups doubt stands.sizes some;
        place = omega (arith, stands.place, front-push stands.groups doubt);
        next_place = refl;
        legal = stands.accepted;
        accepted = subst IsLegal (sym (append-nil (history ++ doubt))) stands.accepted;
        told =
            told_now (Settles gate (gate + 13 + length (spellings doubt)) (gate + 13 + length (spellings doubt)) true)
            (InDoubt (payloads_of stands.groups) (spellings doubt) gate (gate + 13 + length (spellings doubt)))
            (Holds (payloads_of groups) (gate + 13 + length (spellings doubt))) old new
            (λ before now follows known.
            subst (λ (payloads : List (List ℕ)). Holds payloads (gate + 13 + length (spellings doubt)) now)
            (sym (payloads-push stands.groups doubt))
            (follows (payloads_of stands.groups) (spellings doubt) known)) settled doubt_known;
      }

  -- the group is dropped
  pub Stands-dropped : Told old new (Settles gate (gate + 13 + length (spellings doubt)) gate false)
      → Stands new gate None history []
  Stands-dropped settled = record {
    groups = stands.groups;
    whole = stands.whole;
    sizes = stands.sizes;
    place = stands.place;
    next_place = refl;
    legal = stands.legal;
    accepted = subst IsLegal (sym (append-nil history)) stands.legal;
    told = told_now (Settles gate (gate + 13 + length (spellings doubt)) gate false)
        (InDoubt (payloads_of stands.groups) (spellings doubt) gate (gate + 13 + length (spellings doubt)))
        (Holds (payloads_of stands.groups) gate) old new
        (λ before now follows known. follows (payloads_of stands.groups) (spellings doubt) known) settled doubt_known;
  }

  -- a crash while it is found out
  pub crash-settled : Told old new (LeavesInDoubt gate (gate + 13 + length (spellings doubt)))
      → CrashesLeave (StandsForEither history doubt) old new
  crash-settled leaves =
      told_given (LeavesInDoubt gate (gate + 13 + length (spellings doubt)))
      (InDoubt (payloads_of stands.groups) (spellings doubt) gate (gate + 13 + length (spellings doubt)))
      (λ before now. Leaves (StandsForEither history doubt) before now) old new
      (λ before now follows known.
      Leaves-weaker (WithOrWithout (payloads_of stands.groups) (spellings doubt)) (StandsForEither history doubt)
      before now
      (λ file either. either_stands stands.groups history doubt file stands.whole either)
      (follows (payloads_of stands.groups) (spellings doubt) known)) leaves doubt_known

-- the gate byte read was 1
pub Resolves-counts : (gate : ℕ) (disk : DiskState) (history doubt : List Entry) (counts : Bool) → counts ≡ true
    → IfSome disk.past (λ past. IsTrue counts ↔ (slice_index (contents_of past) gate ≡ 1))
    → Resolves gate disk (record { history = history; doubt = doubt }) (history ++ doubt)
Resolves-counts gate disk history doubt counts yes_ byte = (
  inr refl,
  λ some. known_of (λ past. IsTrue counts ↔ (slice_index (contents_of past) gate ≡ 1))
      (λ past. history ++ doubt ≡ cond (is_open gate past) (history ++ doubt) history) disk.past
      (λ past is. ap (λ (b : Bool). cond b (history ++ doubt) history)
      (sym (eq-eqb (slice_index (contents_of past) gate) 1 (is.0 yes_)))) byte,
)

-- it was another
pub Resolves-drops : (gate : ℕ) (disk : DiskState) (history doubt : List Entry) (counts : Bool) → counts ≡ false
    → IfSome disk.past (λ past. IsTrue counts ↔ (slice_index (contents_of past) gate ≡ 1))
    → Resolves gate disk (record { history = history; doubt = doubt }) history
Resolves-drops gate disk history doubt counts not_ byte = (
  inl refl,
  λ some. known_of (λ past. IsTrue counts ↔ (slice_index (contents_of past) gate ≡ 1))
      (λ past. history ≡ cond (is_open gate past) (history ++ doubt) history) disk.past
      (λ past is. elim (cases_Bool (is_open gate past)) [
        | inl open_ ↦ absurd (true≢false (sym (is.1 (eqb-true (slice_index (contents_of past) gate) 1 open_)) ∙ not_))
        | inr shut ↦ ap (λ (b : Bool). cond b (history ++ doubt) history) (sym shut)
      ]) byte,
)

-- nothing was in doubt
pub Resolves-none : (gate : ℕ) (disk : DiskState) (history doubt : List Entry) → doubt ≡ []
    → Resolves gate disk (record { history = history; doubt = doubt }) history
Resolves-none gate disk history doubt none = (inl refl, λ some. absurd (omega (arith, some, ap length none)))

module _ (old new : DiskState) (gate : ℕ) (next : Option ℕ) (history group : List Entry)
    (stands : Stands old gate next history []) where
  -- a group was added
  pub Stands-added : 1 ≤ length group → IsLegal (history ++ group)
      → Told old new (Adds (spellings group) gate (gate + 13 + length (spellings group)))
      → Stands new (gate + 13 + length (spellings group)) None (history ++ group) []
  Stands-added some legal adds =
      let groups : List (List Entry) = stands.groups ++ group ∷ [] in
      record {
        groups = groups;
        whole = joined-push stands.groups group ∙ ap (λ (entries : List Entry). entries ++ group) stands.whole;
        sizes = sizes-push stands.groups group stands.sizes some;
        place = omega (arith, stands.place, front-push stands.groups group);
        next_place = refl;
        legal = legal;
        accepted = subst IsLegal (sym (append-nil (history ++ group))) legal;
        told = told_now (Adds (spellings group) gate (gate + 13 + length (spellings group)))
            (Holds (payloads_of stands.groups) gate)
            (Holds (payloads_of groups) (gate + 13 + length (spellings group))) old new
            (λ before now follows known.
            subst (λ (payloads : List (List ℕ)). Holds payloads (gate + 13 + length (spellings group)) now)
            (sym (payloads-push stands.groups group)) (follows (payloads_of stands.groups) known).0) adds stands.told;
      }

  -- it is in doubt
  pub Stands-doubted : 1 ≤ length group → IsLegal (history ++ group)
      → Told old new (Doubts (spellings group) gate (gate + 13 + length (spellings group)))
      → Stands new gate (Some (gate + 13 + length (spellings group))) history group
  Stands-doubted some legal doubts = record {
    groups = stands.groups;
    whole = stands.whole;
    sizes = stands.sizes;
    place = stands.place;
    next_place = sym (gate_behind-some gate group some);
    legal = stands.legal;
    accepted = legal;
    told = told_now (Doubts (spellings group) gate (gate + 13 + length (spellings group)))
        (Holds (payloads_of stands.groups) gate) (HoldsAt (payloads_of stands.groups) group gate) old new
        (λ before now follows known. put_doubt stands.groups group gate now some
        (follows (payloads_of stands.groups) known).0) doubts stands.told;
  }

  -- a crash while it is added
  pub crash-added : Told old new (LeavesOldOrNew (spellings group) gate)
      → CrashesLeave (StandsForEither history group) old new
  crash-added leaves =
      told_given (LeavesOldOrNew (spellings group) gate) (Holds (payloads_of stands.groups) gate)
      (λ before now. Leaves (StandsForEither history group) before now) old new
      (λ before now follows known.
      Leaves-weaker (WithOrWithout (payloads_of stands.groups) (spellings group)) (StandsForEither history group)
      before now
      (λ file either. either_stands stands.groups history group file stands.whole either)
      (follows (payloads_of stands.groups) known)) leaves stands.told

-- room for messages behind others is room for them
pub fits-behind : {Room : Type 0} (Holds : Room → List Message → Type 0) (room : Room)
    → ((room : Room) (message : Message) (messages : List Message) → Holds room (message ∷ messages)
    → Holds room messages)
    → (entries : List Entry) (others : List Message) → Holds room (messages_of entries ++ others) → Holds room others
fits-behind Holds room rest [] others fits = fits
fits-behind Holds room rest (entry ∷ entries) others fits =
    fits-behind Holds room rest entries others (rest room entry.message (messages_of entries ++ others) fits)
