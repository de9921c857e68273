-- What a group of messages is answered, as a turn.
use Rattle.std.proofs.Common.{◌≡◌, ◌≢◌, ℕ, ◌-◌, ◌≤◌, List, [], ◌++◌, length, map, replicate, Option, Some, None, refl, sym, ◌∙◌, ap, arith}
use Rattle.tb_units.specs.declared.moment.Moment.{Moment}
use Rattle.tb_message.specs.declared.message.Entry.{Entry}
use Rattle.tb_message.specs.declared.message.Message.{Message}
use Rattle.tb_message.specs.declared.verdict.Verdict.{Verdict}
use Rattle.tb_history.specs.Legal.{running}
use Rattle.tb_desk.specs.declared.reply.GroupReply.{GroupReply}
use Rattle.tb_desk.specs.declared.reply.GroupReply.TheVariants as group
use Rattle.tb_desk.proofs.JudgeLemmas.{verdicts_on-length}
use Rattle.tb_desk.specs.Turn.{Held, Replies, verdicts_on, group_on, IsAnswered, IsDoubted}
use Rattle.tb_desk.specs.Desks.{Tells, told_by, CountsFault, doubted_by}

-- the places tell the verdicts
pub told-verdicts : (at : List Entry) (submitter : List ℕ) (moment later : Moment) (messages : List (ℕ × Message))
    (places : List (Option Verdict))
    → later ≡ running at moment
    → places ≡ map Some (verdicts_on at submitter later messages) ++ replicate (64 - length messages) None
    → Tells group.Verdicts places (Some (verdicts_on at submitter (running at moment) messages))
told-verdicts at submitter moment later messages places runs are =
    are
    ∙ (ap (λ (m : Moment). map Some (verdicts_on at submitter m messages) ++ replicate (64 - length messages) None) runs
    ∙ ap (λ (n : ℕ). map Some (verdicts_on at submitter (running at moment) messages) ++ replicate (64 - n) None)
    (sym (verdicts_on-length at submitter (running at moment) messages)))

-- the verdicts were given, and the group was added
pub answered-group : (at after : List Entry) (submitter : List ℕ) (moment later : Moment) (messages : List (ℕ
    × Message))
    (group doubt : List Entry)
    → later ≡ running at moment
    → group ≡ group_on at submitter later messages
    → after ≡ at ++ group
    → doubt ≡ []
    → IsAnswered at (record { submitter = submitter; moment = moment; messages = messages })
    (record { history = after; doubt = doubt }) (Some (verdicts_on at submitter (running at moment) messages))
answered-group at after submitter moment later messages group doubt runs is grows none = record {
  given = refl;
  grown = grows ∙ ap (λ (entries : List Entry). at ++ entries)
      (is ∙ ap (λ (m : Moment). group_on at submitter m messages) runs);
  sure = none;
}

-- the group is in doubt
pub doubted-group : (at after : List Entry) (submitter : List ℕ) (moment later : Moment) (messages : List (ℕ × Message))
    (group : List Entry)
    → later ≡ running at moment
    → group ≡ group_on at submitter later messages
    → 1 ≤ length group
    → after ≡ at
    → IsDoubted at (record { submitter = submitter; moment = moment; messages = messages })
    (record { history = after; doubt = group }) None
doubted-group at after submitter moment later messages group runs is some stays =
    let grown : group ≡ group_on at submitter (running at moment) messages =
    is ∙ ap (λ (m : Moment). group_on at submitter m messages) runs in
    record {
      failed = refl;
      some = omega (arith, some, ap length grown);
      same = stays;
      unsure = grown;
    }

-- a fault alone tells no verdicts
pub told-none : (reply : GroupReply) (places : List (Option Verdict)) (replies : Replies) → Tells reply places replies
    → replies ≡ None → reply ≡ group.DiskFault
told-none group.Verdicts places (Some given) tells none = cc
told-none group.Verdicts places None tells none = absurd tells
told-none group.DiskFault places (Some given) tells none = absurd tells
told-none group.DiskFault places None tells none = refl

-- and verdicts aren't a fault
pub told-some : (reply : GroupReply) (places : List (Option Verdict)) (replies : Replies) → Tells reply places replies
    → reply ≢ group.DiskFault → replies ≢ None
told-some reply places replies tells given none = given (told-none reply places replies tells none)

-- a fault is counted where the replies are none
pub told-counts : (reply : GroupReply) (places : List (Option Verdict)) (replies : Replies) (old new : ℕ)
    → Tells reply places replies → CountsFault (told_by reply) old new → CountsFault replies old new
told-counts group.Verdicts places (Some given) old new tells counts = counts
told-counts group.Verdicts places None old new tells counts = absurd tells
told-counts group.DiskFault places (Some given) old new tells counts = absurd tells
told-counts group.DiskFault places None old new tells counts = counts

-- and what is left in doubt then is the same
pub told-doubted : (reply : GroupReply) (places : List (Option Verdict)) (replies : Replies) (after : Held)
    → Tells reply places replies → doubted_by (told_by reply) after ≡ doubted_by replies after
told-doubted group.Verdicts places (Some given) after tells = refl
told-doubted group.Verdicts places None after tells = absurd tells
told-doubted group.DiskFault places (Some given) after tells = absurd tells
told-doubted group.DiskFault places None after tells = refl
