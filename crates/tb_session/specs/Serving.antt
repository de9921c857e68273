-- The steps of serving one link.
use Rattle.std.specs.Prelude.{◌≡◌, ℕ, ◌+◌, ◌<◌, ◌⊎◌, List, [], ◌∷◌, ◌++◌, length, Result, Ok, Err, All}
use Rattle.tb_link.specs.Counts.{Rose}
use Rattle.tb_link.specs.declared.source.Failed.{Failed}
use Rattle.tb_gates.specs.Links.{LinkState, Moved, Begins}
use Rattle.tb_wire.specs.declared.cutting.Cutting.TheVariants.{Whole}
use Rattle.tb_wire.specs.declared.cutting.HttpRequest.{HttpRequest}
use Rattle.tb_wire.specs.Front.{IsFront}
use Rattle.tb_lock.specs.declared.view.View.{View}
use Rattle.tb_session.specs.declared.answer.Answer.{Answer}
use Rattle.tb_session.specs.declared.end.End.{End}
use Rattle.tb_session.specs.declared.write.Unsent.{Unsent}
use Rattle.tb_session.specs.declared.write.Unsent.TheVariants as unsent
use Rattle.tb_session.specs.Gains.{Gains}
use Rattle.tb_session.specs.Inbox.{ReadsNoneAhead}
use Rattle.tb_session.specs.Replies.{IsTold, MayLack}
use Rattle.tb_session.specs.Session.{Exchange, IsExchange, AreCut, LetsGoOn, Session, IsSession, TakeTurns, Wrote, body_of, calls_in, most_turns, replies_of}

-- a part of these bytes was written, all of them unless the count of faults rose
pub record Tries (old new : LinkState) (due : List ℕ) : Type 0 where
  pub tail : List ℕ
  pub begins : Begins tail due
  pub wrote : Wrote old new tail
  pub whole : (tail ≡ due) ⊎ Rose old.sink.faults new.sink.faults

-- a part of them was written, and the count rose
pub record Fails (old new : LinkState) (due : List ℕ) : Type 0 where
  pub tail : List ℕ
  pub begins : Begins tail due
  pub wrote : Wrote old new tail
  pub rose : Rose old.sink.faults new.sink.faults

-- a write of these bytes
abbrev pub Writes : LinkState → LinkState → List ℕ → Result (Unit {0}) Failed → Type 0
Writes old new bytes (Ok _) = Wrote old new bytes
Writes old new bytes (Err _) = Fails old new bytes

-- a write of a reply with these bytes
abbrev pub WritesReply : LinkState → LinkState → List ℕ → Result (Unit {0}) Unsent → Type 0
WritesReply old new bytes (Ok _) = Wrote old new bytes
WritesReply old new bytes (Err unsent.WriteFault) = Fails old new bytes
WritesReply old new bytes (Err unsent.OutOfMemory) = ⊥

-- an answer was told by a reply with these bytes; or the write failed; or there was no memory, and nothing was written
abbrev pub Sends : LinkState → LinkState → Answer → List ℕ → Result (Unit {0}) Unsent → Type 0
Sends old new said bytes (Ok _) = Wrote old new bytes × IsTold said
Sends old new said bytes (Err unsent.WriteFault) = Fails old new bytes × IsTold said
Sends old new said bytes (Err unsent.OutOfMemory) = (new ≡ old) × MayLack said

-- the request at the front of these bytes was answered, by a call that the pass gained or without one
pub record Answers (old new : View) (r : HttpRequest) (waiting : List ℕ) (said : Answer) : Type 0 where
  pub exchange : Exchange
  pub request_is : exchange.request ≡ r
  pub body_is : exchange.body ≡ body_of r waiting
  pub said_is : exchange.said ≡ said
  pub is_exchange : IsExchange old.fixed exchange
  pub gains : Gains old new (calls_in (exchange ∷ []))

-- the link ended before another request was whole
pub record EndsIdle (old new : LinkState) (waiting : List ℕ) (ended : End) : Type 0 where
  pub session : Session
  pub ended_is : session.ended ≡ ended
  pub none : (session.exchanges ≡ []) × (session.last ≡ [])
  pub is_session : (fixed : List ℕ) (turns : ℕ) → turns < most_turns → IsSession fixed turns waiting old new session

-- a request waits, and these bytes were read
pub record Waits (old new : LinkState) (before after : List ℕ) (r : HttpRequest) : Type 0 where
  pub read : List ℕ
  pub moved : Moved old new read []
  pub grown : after ≡ before ++ read
  pub front : IsFront after (Whole r)
  pub none_ahead : ReadsNoneAhead old new before read

-- the next request of a link, or its end
abbrev pub Hears : LinkState → LinkState → List ℕ → List ℕ → Result HttpRequest End → Type 0
Hears old new before after (Ok r) = Waits old new before after r
Hears old new before after (Err ended) = EndsIdle old new before ended

-- so far the link goes on: these requests were served, these bytes were read, and these are waiting
pub record GoesOn (fixed : List ℕ) (turns : ℕ) (waiting : List ℕ) (old new : LinkState) (exchanges : List Exchange)
    (read now : List ℕ) : Type 0 where
  pub cuts : AreCut exchanges (waiting ++ read) now
  pub are_exchanges : All (IsExchange fixed) exchanges
  pub goes_on : All LetsGoOn exchanges
  pub few : turns + length exchanges < most_turns
  pub moved : Moved old new read (replies_of exchanges)
  pub turns_taken : TakeTurns exchanges waiting read now old new

-- so many requests were served, by the calls that the pass gained
pub record ServesOn (turns count : ℕ) (waiting : List ℕ) (old new : View) (link after : LinkState) (now : List ℕ)
    : Type 0 where
  pub exchanges : List Exchange
  pub read : List ℕ
  pub counted : length exchanges ≡ count
  pub progress : GoesOn old.fixed turns waiting link after exchanges read now
  pub gains : Gains old new (calls_in exchanges)
