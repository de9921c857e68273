-- What acting on lines keeps: the history, and the count of faults.
use Rattle.std.proofs.Common.{◌≡◌, ℕ, ◌≤◌, List, [], ◌∷◌, ◌++◌, Option, Some, None, sym, ap, ◌∙◌, arith, append_assoc, append-nil}
use Rattle.std.specs.Prelude.{Result, Ok, Err}
use Rattle.tb_units.specs.declared.moment.Moment.{Moment}
use Rattle.tb_terms.specs.declared.refusal.Refusal.{Refusal}
use Rattle.tb_message.specs.declared.message.Entry.{Entry}
use Rattle.tb_message.specs.declared.query.Request.{Request}
use Rattle.tb_message.specs.declared.query.Request.TheVariants as request
use Rattle.tb_history.specs.Answer.{caller_of}
use Rattle.tb_history.specs.Roster.{registrations}
use Rattle.tb_commands.specs.DiskRun.{HasGrown}
use Rattle.tb_commands.specs.Replies.{IsAnswered, IsReply, asked_by}
use Rattle.tb_desk.specs.Desks.{replies_of}
use Rattle.tb_commands.specs.ScriptRun.{IsActedOn, IsRun}
use Rattle.tb_commands.specs.Standings.{Standing}
use Rattle.tb_commands.proofs.TurnLemmas.{HasGrown-turn, counts-grown}

-- the history after begins with the one before, and the count isn't below
pub record Goes (old new : Standing) : Type 0 where
  pub grown : HasGrown old new
  pub counted : old.faults ≤ new.faults

-- nothing has changed
Goes-same : (old new : Standing) → new ≡ old → Goes old new
Goes-same old new same = record {
  grown = ([], ap (λ (s : Standing). s.history) same ∙ sym (append-nil old.history));
  counted = omega (arith, ap (λ (s : Standing). s.faults) same);
}

-- one after another
Goes-both : (old mid new : Standing) → Goes old mid → Goes mid new → Goes old new
Goes-both old mid new one other = record {
  grown = (
    one.grown.0 ++ other.grown.0,
    other.grown.1
        ∙ (ap (λ (h : List Entry). h ++ other.grown.0) one.grown.1
        ∙ append_assoc old.history one.grown.0 other.grown.0),
  );
  counted = omega (arith, one.counted, other.counted);
}

-- by a reply
reply-goes : (old new : Standing) (caller : List ℕ) (moment : Moment) (asked : Result Request Refusal) (reply : List ℕ)
    → IsReply old caller moment asked reply new
    → Goes old new
reply-goes old new caller moment (Ok (request.Message number message)) reply is = record {
  grown = HasGrown-turn (asked_by caller moment number message) old new (replies_of is.0) is.1;
  counted = counts-grown (replies_of is.0) old.faults new.faults is.1.counts;
}
reply-goes old new caller moment (Ok (request.Query query)) reply is = Goes-same old new is.1
reply-goes old new caller moment (Err why) reply is = Goes-same old new is.1

-- by what a text is answered
answer-goes : (old new : Standing) (caller : Option (List ℕ)) (moment : Moment) (json reply : List ℕ)
    → IsAnswered old caller moment json reply new
    → Goes old new
answer-goes old new None moment json reply is = Goes-same old new is.1
answer-goes old new (Some caller) moment json reply is = reply-goes old new caller moment is.0 reply is.2

-- by a line
pub line-goes : (operator : List ℕ) (old new : Standing) (line reply : List ℕ)
    → IsActedOn operator old line reply new
    → Goes old new
line-goes operator old new line reply acted =
    answer-goes old new (caller_of (registrations old.history) operator acted.key) acted.moment acted.json reply
    acted.answered

-- by lines
pub run-goes : (operator : List ℕ) (first last : Standing) (lines : List (List ℕ)) (replies : List ℕ)
    → IsRun operator first lines replies last
    → Goes first last
run-goes operator first last [] replies run = Goes-same first last run.1
run-goes operator first last (line ∷ lines) replies run =
    Goes-both first run.1 last (line-goes operator first run.1 line run.0 run.3)
    (run-goes operator run.1 last lines run.2 run.4)

-- the history alone
pub HasGrown-same : (old new : Standing) → new ≡ old → HasGrown old new
HasGrown-same old new same = (Goes-same old new same).grown

pub HasGrown-both : (old mid new : Standing) → HasGrown old mid → HasGrown mid new → HasGrown old new
HasGrown-both old mid new one other = (
  one.0 ++ other.0,
  other.1
      ∙ (ap (λ (h : List Entry). h ++ other.0) one.1
      ∙ append_assoc old.history one.0 other.0),
)
