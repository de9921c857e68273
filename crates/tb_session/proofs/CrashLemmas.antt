-- What a crash leaves in a turn.
use Rattle.std.proofs.Common.{◌≡◌, ◌⊎◌, ℕ, List, ◌++◌, inl, inr, ⊎_elim, refl, sym, ap, ◌∙◌, subst}
use Rattle.tb_disk.specs.Disks.{DiskState}
use Rattle.tb_disk.specs.Past.{MayLeave, Leaves}
use Rattle.tb_disk.proofs.Moments.{Leaves-start, Leaves-weaker}
use Rattle.tb_journal.proofs.ToldLemmas.{Told-weaker, known_of, told_still}
use Rattle.tb_gates.specs.Clocks.{ClockState}
use Rattle.tb_message.specs.declared.message.Entry.{Entry}
use Rattle.tb_desk.specs.Desks.{held}
use Rattle.tb_desk.specs.Stands.{CrashesLeave, LeavesEither, StandsForEither}
use Rattle.tb_desk.specs.Turn.{Held, IsOneOf}
use Rattle.tb_lock.specs.declared.view.View.{View}
use Rattle.tb_lock.specs.Meanings.{History, IsPrefix}
use Rattle.tb_lock.specs.Turns.{IsTaken}
use Rattle.tb_lock.proofs.PrefixLemmas.{prefix-trans}
use Rattle.tb_session.specs.declared.answer.Answer.{Answer}
use Rattle.tb_session.specs.declared.called.Called.{Called}
use Rattle.tb_session.specs.declared.room.Room.{Room}
use Rattle.tb_session.specs.Codes.{spelled_all}
use Rattle.tb_session.specs.Crashes.{HasSeen, LeavesSeen}
use Rattle.tb_session.specs.Rooms.{room_means}
use Rattle.tb_session.specs.Turned.{Calls, added_by}
use Rattle.tb_session.specs.Groups.{CallsTogether, Replied, added_in}
use Rattle.tb_message.specs.declared.key.Key.{Key}
use Rattle.tb_message.specs.declared.message.Message.{Message}
use Rattle.tb_units.specs.declared.moment.Moment.{Moment}
use Rattle.tb_session.proofs.DoesLemmas.{held-same}
use Rattle.tb_session.proofs.TurnLemmas.{spelled-append}

-- where nothing happens, a crash leaves what one before it left
pub crash-still : (disk : DiskState) (h : Held) → LeavesEither disk h.history h.doubt
    → CrashesLeave (IsOneOf h h) disk disk
crash-still disk h leaves =
    told_still (λ before now. Leaves (IsOneOf h h) before now)
    (λ past. (file : List ℕ) → MayLeave past file → StandsForEither h.history h.doubt file) disk
    (λ now left. Leaves-start (IsOneOf h h) now (λ file may. inl (left file may))) leaves

-- a crash leaves the same from the desk that made room
pub crash-from : (old mid new : Held) (before between after : DiskState)
    → mid.history ≡ old.history
    → mid.doubt ≡ old.doubt
    → between ≡ before
    → CrashesLeave (IsOneOf mid new) between after
    → CrashesLeave (IsOneOf old new) before after
crash-from old mid new before between after history doubt disk crash =
    subst (λ (d : DiskState). CrashesLeave (IsOneOf old new) d after) disk
    (subst (λ (h : Held). CrashesLeave (IsOneOf h new) between after) (held-same old mid history doubt) crash)

-- and where that is all that happened
pub crash-room : (old mid : Held) (before between : DiskState)
    → mid.history ≡ old.history
    → mid.doubt ≡ old.doubt
    → between ≡ before
    → CrashesLeave (IsOneOf old old) before before
    → CrashesLeave (IsOneOf old mid) before between
crash-room old mid before between history doubt disk crash =
    subst (λ (d : DiskState). CrashesLeave (IsOneOf old mid) before d) (sym disk)
    (subst (λ (h : Held). CrashesLeave (IsOneOf old h) before before) (sym (held-same old mid history doubt)) crash)

-- a history that goes on begins with what the shorter one begins with
goes-on : (seen : History) (one other more : List Entry) → other ≡ one ++ more → IsPrefix seen (spelled_all one)
    → IsPrefix seen (spelled_all other)
goes-on seen one other more is begins =
    prefix-trans seen (spelled_all one) (spelled_all other) begins
    (spelled_all more, ap (λ (l : List Entry). spelled_all l) is ∙ spelled-append one more)

-- a file that stands for a history, with or without a group behind it, has all that it begins with
has-seen : (seen : History) (h : Held) (file : List ℕ) → IsPrefix seen (spelled_all h.history)
    → StandsForEither h.history h.doubt file
    → HasSeen seen file
has-seen seen h file begins (inl stands) = record { history = h.history; stands = stands; begins = begins }
has-seen seen h file begins (inr stands) = record {
  history = h.history ++ h.doubt;
  stands = stands;
  begins = goes-on seen h.history (h.history ++ h.doubt) h.doubt refl begins;
}

module _ {D C : Type 0} (disk : D → DiskState) (clock : C → ClockState) (before after : View) (old : Room D C)
    (taken : IsTaken (room_means disk clock) before after old) where
  -- a crash at the take
  pub leaves-seen : LeavesEither (disk old.desk.disk) old.desk.host.history old.desk.doubt
      → LeavesSeen before.seen (disk old.desk.disk)
  leaves-seen leaves =
      known_of (λ past. (file : List ℕ) → MayLeave past file
      → StandsForEither old.desk.host.history old.desk.doubt file)
      (λ past. (file : List ℕ) → MayLeave past file → HasSeen before.seen file) (disk old.desk.disk).past
      (λ now left file may. has-seen before.seen (held old.desk) file taken.begins (left file may)) leaves

  -- and while the history grows, with what was in doubt settled or not
  grown-seen : (new : Room D C) (at added : List Entry)
      → (at ≡ old.desk.host.history) ⊎ (at ≡ old.desk.host.history ++ old.desk.doubt)
      → new.desk.host.history ≡ at ++ added
      → CrashesLeave (IsOneOf (held old.desk) (held new.desk)) (disk old.desk.disk) (disk new.desk.disk)
      → CrashesLeave (HasSeen before.seen) (disk old.desk.disk) (disk new.desk.disk)
  grown-seen new at added settled grown crash =
      Told-weaker (λ before now. Leaves (IsOneOf (held old.desk) (held new.desk)) before now)
      (λ past now. Leaves (HasSeen before.seen) past now) (disk old.desk.disk) (disk new.desk.disk)
      (λ past now. Leaves-weaker (IsOneOf (held old.desk) (held new.desk)) (HasSeen before.seen) past now each) crash
    where
      at_begins : IsPrefix before.seen (spelled_all at)
      at_begins = ⊎_elim
          (λ is. subst (λ (l : List Entry). IsPrefix before.seen (spelled_all l)) (sym is) taken.begins)
          (λ is. goes-on before.seen old.desk.host.history at old.desk.doubt is taken.begins)
          settled

      new_begins : IsPrefix before.seen (spelled_all new.desk.host.history)
      new_begins = goes-on before.seen at new.desk.host.history added grown at_begins

      each : (file : List ℕ) → IsOneOf (held old.desk) (held new.desk) file → HasSeen before.seen file
      each file (inl stands) = has-seen before.seen (held old.desk) file taken.begins stands
      each file (inr stands) = has-seen before.seen (held new.desk) file new_begins stands

  -- so during a call
  pub crashes-seen : (new : Room D C) (c : Called) (said : Answer) → Calls disk clock old new c said
      → CrashesLeave (HasSeen before.seen) (disk old.desk.disk) (disk new.desk.disk)
  crashes-seen new c said called =
      grown-seen new called.does.at (added_by c.outcome) called.does.settled called.does.grown called.crash

  -- and during a group of them
  pub crashes-seen_together : (new : Room D C) (k : Key) (messages : List (ℕ × Message)) (moment : Moment)
      (replied : List Replied)
      → CallsTogether disk clock old new k messages moment replied
      → CrashesLeave (HasSeen before.seen) (disk old.desk.disk) (disk new.desk.disk)
  crashes-seen_together new k messages moment replied together =
      grown-seen new together.does.at (added_in replied) together.does.settled together.does.grown together.crash
