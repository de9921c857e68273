-- One entry, submitted at its own moment where nothing is in doubt.
use Rattle.std.proofs.Common.{◌≡◌, ◌⊎◌, inl, inr, ℕ, ◌≤◌, List, [], ◌∷◌, ◌++◌, length, max, refl, ap, sym, ◌∙◌, subst, arith, append-nil}
use Rattle.std.specs.Prelude.{Some, None, Result}
use Rattle.tb_units.specs.declared.moment.Moment.{Moment}
use Rattle.tb_units.specs.Moments.{moment_of, moment_of-seconds}
use Rattle.tb_disk.specs.Disks.{DiskState}
use Rattle.tb_message.specs.declared.message.Entry.{Entry}
use Rattle.tb_message.specs.declared.verdict.Verdict.{Verdict}
use Rattle.tb_message.specs.declared.verdict.Verdict.TheVariants as verdict
use Rattle.tb_message.specs.Spelling.{IsInRange}
use Rattle.tb_history.specs.Legal.{Follows, last_of, running}
use Rattle.tb_history.specs.Verdict.{verdict_on}
use Rattle.tb_desk.specs.Turn.{Held, Turns, added_by}
use Rattle.tb_desk.proofs.JudgeLemmas.{entry-follows}
use Rattle.tb_replica.specs.declared.taken.TakeFault.{TakeFault}
use Rattle.tb_replica.specs.Adding.{IsAdded, IsToldBy}
use Rattle.tb_replica.specs.Crashes.{IsInDoubt}

-- the running moment is the entry's own, where that isn't earlier
own_moment : (history : List Entry) (moment : Moment)
    → last_of history ≤ moment.seconds
    → running history moment ≡ moment
own_moment history moment in_time =
    let later : max moment.seconds (last_of history) ≡ moment.seconds = omega arith in
    ap moment_of later ∙ moment_of-seconds moment

-- by the verdict on the history
by_verdict : (history new : List Entry) (entry : Entry) (told : Verdict) (result : Result (Unit {0}) TakeFault)
    → verdict_on history entry.submitter entry.number entry.moment entry.message ≡ told
    → new ≡ history ++ (added_by entry.submitter entry.moment (entry.number, entry.message) told ++ [])
    → IsInRange entry
    → last_of history ≤ entry.moment.seconds
    → IsToldBy told (length history) result
    → IsAdded history entry new result
by_verdict history new entry (verdict.Accepted number at) result is grown in_range in_time told =
    subst (λ r. IsAdded history entry new r) (sym told)
    (entry-follows history entry number at in_range in_time is, grown)
by_verdict history new entry (verdict.Repeat number at) result is grown in_range in_time told =
    subst (λ r. IsAdded history entry new r) (sym told) (
      (λ follows. let accepted = follows.accepted in cc),
      refl,
      grown ∙ append-nil history,
    )
by_verdict history new entry (verdict.Refused refusal) result is grown in_range in_time told =
    subst (λ r. IsAdded history entry new r) (sym told) (
      (λ follows. let accepted = follows.accepted in cc),
      refl,
      grown ∙ append-nil history,
    )

-- the history on which the verdict stands, where nothing was in doubt
same_history : (old : Held) (at : List Entry)
    → old.doubt ≡ []
    → (at ≡ old.history) ⊎ (at ≡ old.history ++ old.doubt)
    → at ≡ old.history
same_history old at none is =
    elim is [
      | inl e ↦ e
      | inr e ↦
          e ∙ ap (λ (doubt : List Entry). old.history ++ doubt) none ∙ append-nil old.history
    ]

-- one verdict of a turn
one_verdict : (one other : Verdict) → Some (one ∷ []) ≡ Some (other ∷ []) → one ≡ other
one_verdict one other same = cc

pub Turns-added : (gate : ℕ) (disk : DiskState) (old new : Held) (entry : Entry) (given : Verdict)
    (result : Result (Unit {0}) TakeFault)
    → Turns gate disk (record {
      submitter = entry.submitter;
      moment = entry.moment;
      messages = (entry.number, entry.message) ∷ [];
    }) old new (Some (given ∷ []))
    → old.doubt ≡ []
    → IsInRange entry
    → last_of old.history ≤ entry.moment.seconds
    → IsToldBy given (length old.history) result
    → IsAdded old.history entry new.history result
Turns-added gate disk old new entry given result turns none in_range in_time told =
    elim turns.turn [
      | inl stuck ↦ let failed = stuck.0.failed in absurd cc
      | inr moves ↦
          elim moves.1 [
            | inl answered ↦
                let at = same_history old turns.at none moves.0.0 in
                let on : (history : List Entry) (moment : Moment) → Verdict =
                λ history moment. verdict_on history entry.submitter entry.number moment entry.message in
                let here : turns.at ≡ old.history = at in
                let own : running turns.at entry.moment ≡ entry.moment =
                ap (λ (h : List Entry). running h entry.moment) at ∙ own_moment old.history entry.moment in_time in
                let is : on old.history entry.moment ≡ given =
                sym (one_verdict given (on turns.at (running turns.at entry.moment)) answered.given
                ∙ ap (λ (h : List Entry). on h (running turns.at entry.moment)) at
                ∙ ap (λ (m : Moment). on old.history m) own) in
                let told_is : on turns.at (running turns.at entry.moment) ≡ given =
                sym (one_verdict given (on turns.at (running turns.at entry.moment)) answered.given) in
                let grown : new.history
                ≡ old.history ++ (added_by entry.submitter entry.moment (entry.number, entry.message) given ++ []) =
                answered.grown
                ∙ ap (λ (v : Verdict). turns.at
                ++ (added_by entry.submitter (running turns.at entry.moment) (entry.number, entry.message) v ++ []))
                told_is
                ∙ ap (λ (m : Moment). turns.at
                ++ (added_by entry.submitter m (entry.number, entry.message) given ++ [])) own
                ∙ ap (λ (h : List Entry). h
                ++ (added_by entry.submitter entry.moment (entry.number, entry.message) given ++ [])) at in
                by_verdict old.history new.history entry given result is grown in_range in_time told
            | inr doubted ↦ let failed = doubted.failed in absurd cc
          ]
    ]

-- the same, of a desk that took room for it first
pub Turns-added_on : (history : List Entry) (place gate : ℕ) (disk : DiskState) (old new : Held) (entry : Entry)
    (given : Verdict) (result : Result (Unit {0}) TakeFault)
    → Turns gate disk (record {
      submitter = entry.submitter;
      moment = entry.moment;
      messages = (entry.number, entry.message) ∷ [];
    }) old new (Some (given ∷ []))
    → old.history ≡ history
    → old.doubt ≡ []
    → IsInRange entry
    → last_of history ≤ entry.moment.seconds
    → place ≡ length history
    → IsToldBy given place result
    → IsAdded history entry new.history result
Turns-added_on history place gate disk old new entry given result turns is none in_range in_time at told =
    subst (λ (h : List Entry). IsAdded h entry new.history result) is
    (Turns-added gate disk old new entry given result turns none in_range
    (subst (λ (h : List Entry). last_of h ≤ entry.moment.seconds) (sym is) in_time)
    (subst (λ (n : ℕ). IsToldBy given n result) (at ∙ ap (λ (h : List Entry). length h) (sym is)) told))

-- what a turn would have added of it is in doubt: the entry itself, which was accepted
by_doubt : (history : List Entry) (new : Held) (entry : Entry) (told : Verdict)
    → verdict_on history entry.submitter entry.number entry.moment entry.message ≡ told
    → new.doubt ≡ added_by entry.submitter entry.moment (entry.number, entry.message) told ++ []
    → 1 ≤ length new.doubt
    → new.history ≡ history
    → IsInRange entry
    → last_of history ≤ entry.moment.seconds
    → IsInDoubt (λ place waiting. waiting ≡ entry) new
by_doubt history new entry (verdict.Accepted number at) result is some same in_range in_time = record {
  entry = entry;
  alone = is;
  follows = subst (λ (entries : List Entry). Follows entries entry) (sym same)
      (entry-follows history entry number at in_range in_time result);
  waited = refl;
}
by_doubt history new entry (verdict.Repeat number at) result is some same in_range in_time =
    absurd (omega (arith, some, ap length is))
by_doubt history new entry (verdict.Refused refusal) result is some same in_range in_time =
    absurd (omega (arith, some, ap length is))

-- after a fault of a desk that took room for it first, where nothing was in doubt, the entry is
pub Turns-doubted_on : (history : List Entry) (gate : ℕ) (disk : DiskState) (old new : Held) (entry : Entry)
    → Turns gate disk (record {
      submitter = entry.submitter;
      moment = entry.moment;
      messages = (entry.number, entry.message) ∷ [];
    }) old new None
    → old.history ≡ history
    → old.doubt ≡ []
    → IsInRange entry
    → last_of history ≤ entry.moment.seconds
    → IsInDoubt (λ place waiting. waiting ≡ entry) new
Turns-doubted_on history gate disk old new entry turns is none in_range in_time =
    elim turns.turn [
      | inl stuck ↦ absurd (omega (arith, stuck.0.unsure, ap length none))
      | inr moves ↦
          elim moves.1 [
            | inl answered ↦ let given = answered.given in absurd cc
            | inr doubted ↦
                let at : turns.at ≡ history = same_history old turns.at none moves.0.0 ∙ is in
                let own : running turns.at entry.moment ≡ entry.moment =
                ap (λ (h : List Entry). running h entry.moment) at ∙ own_moment history entry.moment in_time in
                let Adds : List Entry → Moment → List Entry =
                λ h m. added_by entry.submitter m (entry.number, entry.message)
                (verdict_on h entry.submitter entry.number m entry.message) ++ [] in
                let left : new.doubt ≡ Adds history entry.moment =
                doubted.unsure ∙ ap (λ (m : Moment). Adds turns.at m) own
                ∙ ap (λ (h : List Entry). Adds h entry.moment) at in
                by_doubt history new entry
                (verdict_on history entry.submitter entry.number entry.moment entry.message) refl left
                (omega (arith, doubted.some, ap length doubted.unsure)) (doubted.same ∙ at) in_range in_time
          ]
    ]
