-- What a single message is answered, as a turn of one message.
use Rattle.std.proofs.Common.{◌≡◌, ◌≢◌, inl, inr, ℕ, ◌≤◌, max, List, [], ◌∷◌, ◌++◌, length, Some, None, refl, sym, ◌∙◌, ap, arith}
use Rattle.std.proofs.lemmas.List.{append-nil}
use Rattle.tb_units.specs.declared.moment.Moment.{Moment}
use Rattle.tb_units.specs.Moments.{moment_of, moment_of-seconds}
use Rattle.tb_disk.specs.Disks.{DiskState}
use Rattle.tb_message.specs.declared.message.Entry.{Entry}
use Rattle.tb_message.specs.declared.message.Message.{Message}
use Rattle.tb_message.specs.declared.verdict.Verdict.{Verdict}
use Rattle.tb_history.specs.Legal.{IsLegal, last_of, running}
use Rattle.tb_history.specs.Verdict.{verdict_on}
use Rattle.tb_history.specs.OwnPart.{own_part}
use Rattle.tb_history.proofs.SealedLemmas.{IsLegal-sealed}
use Rattle.tb_desk.specs.declared.reply.Reply.{Reply}
use Rattle.tb_desk.specs.declared.reply.Reply.TheVariants as reply
use Rattle.tb_desk.specs.Turn.{Held, Asked, Replies, added, IsAnswered, IsDoubted, IsTurn, DependOnNoOthers}
use Rattle.tb_desk.specs.Desks.{replies_of}

-- the later of a moment and the last one is the running moment
pub later-running : (history : List Entry) (moment last later : Moment) → last.seconds ≡ last_of history
    → later.seconds ≡ max moment.seconds last.seconds → later ≡ running history moment
later-running history moment last later is_last is_later =
    sym (moment_of-seconds later)
    ∙ ap moment_of (is_later ∙ ap (λ (seconds : ℕ). max moment.seconds seconds) is_last)

-- it isn't before the last one
pub later-in_time : (history : List Entry) (moment last later : Moment) → last.seconds ≡ last_of history
    → later.seconds ≡ max moment.seconds last.seconds → last_of history ≤ later.seconds
later-in_time history moment last later is_last is_later = omega (arith, is_last, is_later)

-- the answer to a message that adds nothing
pub answered-kept : (at : List Entry) (submitter : List ℕ) (number : ℕ) (moment later : Moment) (message : Message)
    (verdict : Verdict) (doubt : List Entry)
    → later ≡ running at moment
    → verdict ≡ verdict_on at submitter number later message
    → [] ≡ added at submitter later (number, message)
    → doubt ≡ []
    → IsAnswered at (record { submitter = submitter; moment = moment; messages = (number, message) ∷ [] })
    (record { history = at; doubt = doubt }) (Some (verdict ∷ []))
answered-kept at submitter number moment later message verdict doubt runs is adds none = record {
  given = ap (λ (v : Verdict). Some (v ∷ []))
      (is ∙ ap (λ (m : Moment). verdict_on at submitter number m message) runs);
  grown = sym (append-nil at)
      ∙ ap (λ (entries : List Entry). at ++ entries)
      (adds ∙ (ap (λ (m : Moment). added at submitter m (number, message)) runs
      ∙ sym (append-nil (added at submitter (running at moment) (number, message)))));
  sure = none;
}

-- the answer to a message whose entry was added
pub answered-added : (at after : List Entry) (submitter : List ℕ) (number : ℕ) (moment later : Moment)
    (message : Message)
    (verdict : Verdict) (entry : Entry) (doubt : List Entry)
    → later ≡ running at moment
    → verdict ≡ verdict_on at submitter number later message
    → entry ∷ [] ≡ added at submitter later (number, message)
    → after ≡ at ++ entry ∷ []
    → doubt ≡ []
    → IsAnswered at (record { submitter = submitter; moment = moment; messages = (number, message) ∷ [] })
    (record { history = after; doubt = doubt }) (Some (verdict ∷ []))
answered-added at after submitter number moment later message verdict entry doubt runs is adds grows none = record {
  given = ap (λ (v : Verdict). Some (v ∷ []))
      (is ∙ ap (λ (m : Moment). verdict_on at submitter number m message) runs);
  grown = grows
      ∙ ap (λ (entries : List Entry). at ++ entries)
      (adds ∙ (ap (λ (m : Moment). added at submitter m (number, message)) runs
      ∙ sym (append-nil (added at submitter (running at moment) (number, message)))));
  sure = none;
}

-- the entry of a message is in doubt
pub doubted-added : (at : List Entry) (submitter : List ℕ) (number : ℕ) (moment later : Moment) (message : Message)
    (entry : Entry) (doubt : List Entry)
    → later ≡ running at moment
    → entry ∷ [] ≡ added at submitter later (number, message)
    → doubt ≡ entry ∷ []
    → IsDoubted at (record { submitter = submitter; moment = moment; messages = (number, message) ∷ [] })
    (record { history = at; doubt = doubt }) None
doubted-added at submitter number moment later message entry doubt runs adds unsure =
    let grown = adds ∙ (ap (λ (m : Moment). added at submitter m (number, message)) runs
    ∙ sym (append-nil (added at submitter (running at moment) (number, message)))) in
    record {
      failed = refl;
      some = omega (arith, ap length grown);
      same = refl;
      unsure = unsure ∙ grown;
    }

-- only a fault has no verdict
pub replies-none : (answer : Reply) → replies_of answer ≡ None → answer ≡ reply.DiskFault
replies-none (reply.Verdict verdict) none = cc
replies-none reply.DiskFault none = refl

-- after verdicts nothing is in doubt
pub turn-sure : (gate : ℕ) (disk : DiskState) (asked : Asked) (held after : Held) (replies : Replies) (at : List Entry)
    → IsTurn gate disk asked held after replies at → replies ≢ None → after.doubt ≡ []
turn-sure gate disk asked held after replies at (inl stuck) given = absurd (given stuck.0.failed)
turn-sure gate disk asked held after replies at (inr (resolves, inl answered)) given = answered.sure
turn-sure gate disk asked held after replies at (inr (resolves, inr doubted)) given = absurd (given doubted.failed)

-- the verdict on a single message is sealed
pub sealed-one : (at : List Entry) (submitter : List ℕ) (number : ℕ) (moment : Moment) (message : Message) → IsLegal at
    → DependOnNoOthers ((number, message) ∷ [])
    → verdict_on at submitter number (running at moment) message ∷ []
    ≡ verdict_on (own_part submitter at) submitter number (running at moment) message ∷ []
sealed-one at submitter number moment message legal still =
    ap (λ (v : Verdict). v ∷ [])
    (IsLegal-sealed submitter at legal number (running at moment) message (still 0 (number, message) (omega arith)))

-- a history and a group in doubt
abbrev pub made : List Entry → List Entry → Held
made history doubt = record { history = history; doubt = doubt }

-- the same history and the same group in doubt are the same
pub held-same : (history after doubt behind : List Entry) → after ≡ history → behind ≡ doubt
    → made after behind ≡ made history doubt
held-same history after doubt behind same also =
    ap (λ (entries : List Entry). made entries behind) same
    ∙ ap (λ (entries : List Entry). made history entries) also
