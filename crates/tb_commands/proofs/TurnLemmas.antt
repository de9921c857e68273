-- What one turn of the desk makes of the history.
use Rattle.std.proofs.Common.{◌≡◌, ◌≢◌, ℕ, ◌≤◌, List, [], ◌∷◌, ◌++◌, Some, None, ◌⊎◌, inl, inr, sym, subst, ap, ◌∙◌, refl, arith, append_assoc, append-nil}
use Rattle.tb_link.specs.Counts.{last_count, NeverFalls, Rose}
use Rattle.tb_disk.specs.Disks.{DiskState}
use Rattle.tb_units.specs.declared.moment.Moment.{Moment}
use Rattle.tb_message.specs.declared.message.Entry.{Entry}
use Rattle.tb_message.specs.declared.message.Message.{Message}
use Rattle.tb_message.specs.declared.verdict.Verdict.{Verdict}
use Rattle.tb_history.specs.Legal.{running}
use Rattle.tb_history.specs.Verdict.{verdict_on}
use Rattle.tb_desk.specs.Desks.{PlacedGroup, doubted_by, replies_of}
use Rattle.tb_desk.specs.Turn.{Asked, Held, IsTurn, Replies, Turns, group, verdicts}
use Rattle.tb_desk.specs.declared.reply.Reply.{Reply}
use Rattle.tb_desk.specs.declared.reply.Reply.TheVariants as turned
use Rattle.tb_commands.specs.DiskRun.{HasGrown}
use Rattle.tb_commands.specs.Replies.{asked_by}
use Rattle.tb_commands.specs.Standings.{Standing, held_at}
use Rattle.tb_commands.specs.Turns.{Counts, GoesOneWay, MakesTurn}

-- where a script stands, by its parts
abbrev pub stands_at : List Entry → List Entry → ℕ → List PlacedGroup → Standing
stands_at history doubt faults doubted =
    record { history = history; doubt = doubt; faults = faults; doubted = doubted }

-- it is told by them
pub stands-is : (one : Standing) (history doubt : List Entry) (faults : ℕ) (doubted : List PlacedGroup)
    → one.history ≡ history
    → one.doubt ≡ doubt
    → one.faults ≡ faults
    → one.doubted ≡ doubted
    → one ≡ stands_at history doubt faults doubted
stands-is one history doubt faults doubted histories doubts counts groups =
    ap (λ (h : List Entry). stands_at h one.doubt one.faults one.doubted) histories
    ∙ (ap (λ (d : List Entry). stands_at history d one.faults one.doubted) doubts
    ∙ (ap (λ (f : ℕ). stands_at history doubt f one.doubted) counts
    ∙ ap (λ (g : List PlacedGroup). stands_at history doubt faults g) groups))

-- the count after replies, by its clauses
counts-of : (replies : Replies) (old new : ℕ)
    → NeverFalls old new
    → (replies ≡ None → Rose old new)
    → (replies ≢ None → new ≡ old)
    → Counts replies old new
counts-of (Some verdicts) old new never fault no_fault = no_fault (λ is. absurd (cc))
counts-of None old new never fault no_fault = (never.never_falls, fault refl)

-- the history on which a verdict stands has what was in doubt, or not
resolved-of : (gate : ℕ) (disk : DiskState) (asked : Asked) (old new : Held) (replies : Replies) (at : List Entry)
    → IsTurn gate disk asked old new replies at
    → (at ≡ old.history) ⊎ (at ≡ old.history ++ old.doubt)
resolved-of gate disk asked old new replies at (inl stuck) = inl stuck.1
resolved-of gate disk asked old new replies at (inr resolved) = resolved.0.0

-- a turn goes in one of its ways
way-of : (gate : ℕ) (disk : DiskState) (asked : Asked) (old new : Held) (replies : Replies) (at : List Entry)
    → IsTurn gate disk asked old new replies at
    → GoesOneWay at asked old new replies
way-of gate disk asked old new replies at (inl stuck) = inl stuck.0
way-of gate disk asked old new replies at (inr resolved) = inr resolved.1

-- a turn of the desk, in the words of commands
pub MakesTurn-of : (gate : ℕ) (disk : DiskState) (asked : Asked) (old new : Standing) (replies : Replies)
    → Turns gate disk asked (held_at old) (held_at new) replies
    → NeverFalls old.faults new.faults
    → (replies ≡ None → Rose old.faults new.faults)
    → (replies ≢ None → new.faults ≡ old.faults)
    → new.doubted ≡ old.doubted ++ doubted_by replies (held_at new)
    → MakesTurn asked old new replies
MakesTurn-of gate disk asked old new replies turns never fault no_fault doubted = record {
  at = turns.at;
  resolved = resolved-of gate disk asked (held_at old) (held_at new) replies turns.at turns.turn;
  legal = turns.legal;
  way = way-of gate disk asked (held_at old) (held_at new) replies turns.at turns.turn;
  counts = counts-of replies old.faults new.faults never fault no_fault;
  doubted = doubted;
}

-- the same of a single message
pub MakesTurn-single : (gate : ℕ) (disk : DiskState) (asked : Asked) (old new : Standing) (answer : Reply)
    → Turns gate disk asked (held_at old) (held_at new) (replies_of answer)
    → NeverFalls old.faults new.faults
    → (answer ≡ turned.DiskFault → Rose old.faults new.faults)
    → (answer ≢ turned.DiskFault → new.faults ≡ old.faults)
    → new.doubted ≡ old.doubted ++ doubted_by (replies_of answer) (held_at new)
    → MakesTurn asked old new (replies_of answer)
MakesTurn-single gate disk asked old new (turned.Verdict said) turns never fault no_fault doubted =
    MakesTurn-of gate disk asked old new (Some (said ∷ [])) turns never (λ is. absurd (cc))
    (λ some. no_fault (λ is. absurd (cc))) doubted
MakesTurn-single gate disk asked old new turned.DiskFault turns never fault no_fault doubted =
    MakesTurn-of gate disk asked old new None turns never (λ is. fault refl) (λ some. absurd (some refl)) doubted

-- the history on which a verdict stands begins with the one before
pub at-grown : (old at doubt : List Entry)
    → (at ≡ old) ⊎ (at ≡ old ++ doubt)
    → (more : List Entry) × (at ≡ old ++ more)
at-grown old at doubt (inl same) = ([], same ∙ sym (append-nil old))
at-grown old at doubt (inr with) = (doubt, with)

-- and so does the one after the turn
way-grown : (old at : List Entry) (asked : Asked) (before after : Held) (replies : Replies)
    → before.history ≡ old
    → (more : List Entry) × (at ≡ old ++ more)
    → GoesOneWay at asked before after replies
    → (more : List Entry) × (after.history ≡ old ++ more)
way-grown old at asked before after replies is begins (inl stuck) =
    ([], ap (λ (h : Held). h.history) stuck.same ∙ (is ∙ sym (append-nil old)))
way-grown old at asked before after replies is begins (inr (inl answered)) = (
  begins.0 ++ group at asked,
  answered.grown
      ∙ (ap (λ (h : List Entry). h ++ group at asked) begins.1 ∙ append_assoc old begins.0 (group at asked)),
)
way-grown old at asked before after replies is begins (inr (inr doubted)) = (begins.0, doubted.same ∙ begins.1)

-- a turn keeps the history
pub HasGrown-turn : (asked : Asked) (old new : Standing) (replies : Replies)
    → MakesTurn asked old new replies
    → HasGrown old new
HasGrown-turn asked old new replies turn =
    way-grown old.history turn.at asked (held_at old) (held_at new) replies refl
    (at-grown old.history turn.at old.doubt turn.resolved) turn.way

-- the count after it isn't below the one before
pub counts-grown : (replies : Replies) (old new : ℕ) → Counts replies old new → old ≤ new
counts-grown (Some verdicts) old new counts = omega (arith, counts)
counts-grown None old new counts = counts.0

-- where nothing is in doubt, the verdict stands on the history
at-sure : (old at doubt : List Entry) → doubt ≡ [] → (at ≡ old) ⊎ (at ≡ old ++ doubt) → at ≡ old
at-sure old at doubt sure (inl same) = same
at-sure old at doubt sure (inr with) = with ∙ (ap (λ (d : List Entry). old ++ d) sure ∙ append-nil old)

-- a verdict that was given
pub record Gave (at : List Entry) (asked : Asked) (said : Verdict) (new : Standing) : Type 0 where
  pub given : Some (said ∷ []) ≡ Some (verdicts at asked)
  pub grown : new.history ≡ at ++ group at asked
  pub sure : new.doubt ≡ []

-- a turn that was answered by a verdict gave it
gave-of : (at : List Entry) (asked : Asked) (old new : Standing) (said : Verdict)
    → GoesOneWay at asked (held_at old) (held_at new) (Some (said ∷ []))
    → Gave at asked said new
gave-of at asked old new said (inl stuck) = let wrong = stuck.failed in absurd (cc)
gave-of at asked old new said (inr (inl answered)) =
    record { given = answered.given; grown = answered.grown; sure = answered.sure }
gave-of at asked old new said (inr (inr doubted)) = let wrong = doubted.failed in absurd (cc)

-- so where nothing was in doubt it is that on the history
pub Gave-sure : (asked : Asked) (old new : Standing) (said : Verdict)
    → old.doubt ≡ []
    → MakesTurn asked old new (Some (said ∷ []))
    → Gave old.history asked said new
Gave-sure asked old new said sure turn =
    subst (λ (at : List Entry). Gave at asked said new) (at-sure old.history turn.at old.doubt sure turn.resolved)
    (gave-of turn.at asked old new said turn.way)

-- the verdict on one message
pub said-is : (at : List Entry) (caller : List ℕ) (moment : Moment) (number : ℕ) (message : Message) (said : Verdict)
    (new : Standing)
    → Gave at (asked_by caller moment number message) said new
    → said ≡ verdict_on at caller number (running at moment) message
said-is at caller moment number message said new gave = let given = gave.given in cc

-- a count that stayed, and isn't at its last value, counts no fault
pub no-fault : (old new : ℕ) → new ≡ old → old ≢ last_count → ¬ (Rose old new)
no-fault old new same counting (inl higher) = absurd (omega (arith, same, higher))
no-fault old new same counting (inr last) = counting (sym same ∙ last)
