-- Bids of one key that wait in a row, and their replies.
use Rattle.std.specs.Prelude.{◌≡◌, ℕ, ◌<◌, ◌≤◌, List, [], ◌∷◌, length, take, drop, Result, Ok, Err, false}
use Rattle.tb_gates.specs.Links.{LinkState}
use Rattle.tb_message.specs.declared.key.Key.{Key}
use Rattle.tb_message.specs.declared.message.Message.{Message}
use Rattle.tb_message.specs.Spelling.{IsNumbered}
use Rattle.tb_core.specs.House.{IsBid}
use Rattle.tb_wire.specs.declared.cutting.Cutting.TheVariants.{Whole}
use Rattle.tb_wire.specs.declared.cutting.HttpRequest.{HttpRequest}
use Rattle.tb_wire.specs.declared.cutting.Target.TheVariants as target
use Rattle.tb_wire.specs.Front.{IsFront}
use Rattle.tb_session.specs.declared.answer.Answer.{Answer}
use Rattle.tb_session.specs.declared.called.Ask.TheVariants as ask
use Rattle.tb_session.specs.declared.row.Row.{Row}
use Rattle.tb_session.specs.Replies.{reply_text}
use Rattle.tb_session.specs.Serving.{Fails}
use Rattle.tb_session.specs.Session.{Asks, Wrote, body_of, caller_key}

-- the request at the front of these bytes asks for this bid with this key, and doesn't close the link
pub record IsBidRequest (k : Key) (r : HttpRequest) (bytes : List ℕ) (asked : ℕ × Message) : Type 0 where
  pub front : IsFront bytes (Whole r)
  pub posted : r.target ≡ target.Messages
  pub stays : r.close ≡ false
  pub key_is : caller_key r ≡ Ok k
  pub asks : Asks target.Messages (body_of r bytes) (ask.Message asked.0 asked.1)
  pub numbered : IsNumbered asked.0 asked.1
  pub bid : IsBid asked.1

-- these requests stand at the front of the bytes, one after the other, and ask for these bids with this key
abbrev pub AreInRow : Key → List ℕ → List ℕ → List HttpRequest → List (ℕ × Message) → Type 0
AreInRow k bytes rest [] [] = bytes ≡ rest
AreInRow k bytes rest (r ∷ requests) (asked ∷ bids) =
    IsBidRequest k r bytes asked × AreInRow k (drop r.used bytes) rest requests bids
AreInRow k bytes rest requests bids = ⊥

-- the bids of a row wait at the front of these bytes
pub record WaitInRow (row : Row) (waiting : List ℕ) : Type 0 where
  pub requests : List HttpRequest
  pub are : AreInRow row.key waiting (drop row.used waiting) requests row.bids.items
  pub within : row.used ≤ length waiting

-- the replies to bids after which the link goes on were written, one after the other, and nothing was read
abbrev pub AreWritten : LinkState → LinkState → List Answer → Type 0
AreWritten old new [] = new ≡ old
AreWritten old new (said ∷ answers) = (told : LinkState) × Wrote old told (reply_text said target.Messages false)
    × AreWritten told new answers

-- the replies were written up to this place, and of that one a part
pub record FailsAt (old new : LinkState) (answers : List Answer) (place : ℕ) : Type 0 where
  pub said : Answer
  pub others : List Answer
  pub split : drop place answers ≡ said ∷ others
  pub within : place < length answers
  pub between : LinkState
  pub written : AreWritten old between (take place answers)
  pub fails : Fails between new (reply_text said target.Messages false)

-- the replies were written, or at one of them the write failed
abbrev pub RepliesTo : LinkState → LinkState → List Answer → Result (Unit {0}) ℕ → Type 0
RepliesTo old new answers (Ok _) = AreWritten old new answers
RepliesTo old new answers (Err place) = FailsAt old new answers place
