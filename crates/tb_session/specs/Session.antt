-- What becomes of one link.
use Rattle.std.specs.Prelude.{◌≡◌, ◌≢◌, ℕ, ◌+◌, ◌<◌, ◌⊎◌, List, [], ◌∷◌, ◌++◌, length, take, drop, map, flat_map, filter_map, Bool, true, false, Option, Some, None, Result, Ok, Err, All, ◌||◌, ◌==◌}
use Rattle.tb_link.specs.Counts.{Rose}
use Rattle.tb_terms.specs.declared.refusal.Refusal.{Refusal}
use Rattle.tb_terms.specs.declared.refusal.Refusal.TheVariants as refusal
use Rattle.tb_terms.specs.declared.refusal.Field.TheVariants as field
use Rattle.tb_message.specs.declared.key.Key.{Key}
use Rattle.tb_message.specs.declared.query.ReadFault.{ReadFault}
use Rattle.tb_message.specs.declared.query.ReadFault.TheVariants as fault
use Rattle.tb_message.specs.declared.query.Request.{Request}
use Rattle.tb_message.specs.declared.query.Request.TheVariants as request
use Rattle.tb_message.specs.Requests.{AnswerOf}
use Rattle.tb_gates.specs.Links.{LinkState, Moved, Begins}
use Rattle.tb_wire.specs.declared.cutting.Cutting.TheVariants.{Whole, Bad, More}
use Rattle.tb_wire.specs.declared.cutting.HttpRequest.{HttpRequest}
use Rattle.tb_wire.specs.declared.cutting.Target.{Target}
use Rattle.tb_wire.specs.declared.cutting.Target.TheVariants as target
use Rattle.tb_wire.specs.Cuts.{HoldsNone}
use Rattle.tb_wire.specs.Front.{IsFront}
use Rattle.tb_wire.specs.Replies.{bad_front, no_memory}
use Rattle.tb_lock.specs.declared.view.View.{View}
use Rattle.tb_session.specs.declared.answer.Answer.{Answer}
use Rattle.tb_session.specs.declared.answer.Answer.TheVariants as answer
use Rattle.tb_session.specs.declared.called.Ask.{Ask}
use Rattle.tb_session.specs.declared.called.Ask.TheVariants as ask
use Rattle.tb_session.specs.declared.end.End.{End}
use Rattle.tb_session.specs.declared.end.End.TheVariants as end
use Rattle.tb_session.specs.Calls.{refused}
use Rattle.tb_session.specs.Codes.{Made, call_of, IsAnswerOf}
use Rattle.tb_session.specs.Gains.{AreBeside, AreBidsOfOne, Gains}
use Rattle.tb_session.specs.Inbox.{AtEnd, FindsEnd, FindsFault, ReadsNoneAhead}
use Rattle.tb_session.specs.Replies.{reply_text, IsTold, MayLack}

-- requests of a link, at most
abbrev pub most_turns : ℕ
most_turns = 1000000

-- ---- what a request asks

-- the key by which a request calls; or its refusal, where it has no route, or no such method, or no key
abbrev pub key_by : Target → Option Key → Result Key Refusal
key_by target.NoRoute key = Err refusal.NoRoute
key_by target.GetOnly key = Err refusal.BadMethod
key_by target.PostOnly key = Err refusal.BadMethod
key_by target.Messages None = Err refusal.UnknownKey
key_by target.Messages (Some key) = Ok key
key_by (target.Read query) None = Err refusal.UnknownKey
key_by (target.Read query) (Some key) = Ok key

abbrev pub caller_key : HttpRequest → Result Key Refusal
caller_key r = key_by r.target r.key

-- what a posted text asks: its message, or its fault; a query isn't posted
abbrev pub posted_ask : Result Request ReadFault → Option Ask
posted_ask (Ok (request.Message number message)) = Some (ask.Message number message)
posted_ask (Ok (request.Query query)) = Some (ask.BadShape field.Kind)
posted_ask (Err fault.BadJson) = Some ask.BadJson
posted_ask (Err (fault.BadShape member)) = Some (ask.BadShape member)
posted_ask (Err fault.OutOfMemory) = None

-- a request that leads here, with this body, asks this
abbrev pub Asks : Target → List ℕ → Ask → Type 0
Asks (target.Read query) body asked = asked ≡ ask.Query query
Asks target.Messages body asked =
    (read : Result Request ReadFault) × AnswerOf body read × (posted_ask read ≡ Some asked)
Asks other body asked = ⊥

-- ---- requests that were served

-- a request that was served, with its body, the call that it became, where it became one, and what it was answered
pub record Exchange : Type 0 where
  pub request : HttpRequest
  pub body : List ℕ
  pub call : Option Made
  pub said : Answer

-- A request that calls by no key is refused without a call. Any other becomes a call by its key with what it asks, and
-- is answered by that call; or it was posted, and there was no memory to read what it asks.
abbrev pub Becomes : List ℕ → HttpRequest → List ℕ → Result Key Refusal → Option Made → Answer → Type 0
Becomes fixed r body (Err why) None said = said ≡ refused why
Becomes fixed r body (Err why) (Some made) said = ⊥
Becomes fixed r body (Ok key) (Some made) said =
    (made.called.key ≡ key) × Asks r.target body made.called.ask × IsAnswerOf fixed made said
Becomes fixed r body (Ok key) None said = (r.target ≡ target.Messages) × (said ≡ answer.OutOfMemory)

abbrev pub IsExchange : List ℕ → Exchange → Type 0
IsExchange fixed e = Becomes fixed e.request e.body (caller_key e.request) e.call e.said

-- the body of a request at the front of these bytes
abbrev pub body_of : HttpRequest → List ℕ → List ℕ
body_of r bytes = drop r.body_start (take r.used bytes)

-- the requests are cut from the front of the bytes, one after the other, each with its body, and leave the rest
abbrev pub AreCut : List Exchange → List ℕ → List ℕ → Type 0
AreCut [] bytes rest = bytes ≡ rest
AreCut (e ∷ exchanges) bytes rest =
    IsFront bytes (Whole e.request) × (e.body ≡ body_of e.request bytes)
    × AreCut exchanges (drop e.request.used bytes) rest

-- their requests, in order
abbrev pub requests_in : List Exchange → List HttpRequest
requests_in exchanges = map (λ e. e.request) exchanges

-- their calls, in order
abbrev pub calls_in : List Exchange → List Made
calls_in exchanges = filter_map (λ e. e.call) exchanges

-- the bytes of a reply
abbrev pub reply_of : Exchange → Bool → List ℕ
reply_of e close = reply_text e.said e.request.target close

-- the replies to requests after which the link went on
abbrev pub replies_of : List Exchange → List ℕ
replies_of exchanges = flat_map (λ e. reply_of e false) exchanges

-- these bytes were written, and nothing was read
pub record Wrote (old new : LinkState) (bytes : List ℕ) : Type 0 where
  pub moved : Moved old new [] bytes
  pub no_read : new.source.reads ≡ old.source.reads

-- a request for which nothing was read ahead, and whose reply was written before anything more was read
pub record RepliesInTurn (e : Exchange) (waiting read : List ℕ) (old new : LinkState) : Type 0 where
  pub heard : LinkState
  pub none_ahead : ReadsNoneAhead old heard waiting read
  pub wrote : Wrote heard new (reply_of e false)

-- so each of these requests in its turn: these bytes were read for them, and those are left
abbrev pub TakeTurns : List Exchange → List ℕ → List ℕ → List ℕ → LinkState → LinkState → Type 0
TakeTurns [] waiting read left old new = (read ≡ []) × (left ≡ waiting) × (new ≡ old)
TakeTurns (e ∷ exchanges) waiting read left old new =
    (first more : List ℕ) × (told : LinkState) × (read ≡ first ++ more) × RepliesInTurn e waiting first old told
    × TakeTurns exchanges (drop e.request.used (waiting ++ first)) more left told new

-- the end: a read found it, or what was due was written, and nothing was read behind that
abbrev pub EndsInTurn : End → List ℕ → List ℕ → List ℕ → LinkState → LinkState → Type 0
EndsInTurn end.EndOfInput waiting read tail old new = FindsEnd old new waiting read
EndsInTurn end.CutShort waiting read tail old new = FindsEnd old new waiting read
EndsInTurn end.ReadFault waiting read tail old new = FindsFault old new waiting read
EndsInTurn ended waiting read tail old new =
    (heard : LinkState) × ReadsNoneAhead old heard waiting read × Wrote heard new tail

-- a link that is never read ahead of a reply, nor behind the last one
pub record NeverReadsAhead (exchanges : List Exchange) (ended : End) (waiting read tail : List ℕ) (old new : LinkState)
    : Type 0 where
  pub early : List ℕ
  pub late : List ℕ
  pub read_is : read ≡ early ++ late
  pub left : List ℕ
  pub told : LinkState
  pub turns : TakeTurns exchanges waiting early left old told
  pub ends : EndsInTurn ended left late tail told new

-- a link goes on after a request that doesn't ask to close and was told its answer
abbrev pub LetsGoOn : Exchange → Type 0
LetsGoOn e = (e.request.close ≡ false) × IsTold e.said

-- a request with so many before it has a reply that closes: it asks to, or is the last that may be
abbrev pub closes_at : ℕ → HttpRequest → Bool
closes_at turns r = r.close || (turns + 1 == most_turns)

-- requests that shared a turn: each became a call, a bid with one key, between the same two counts of faults
pub record ShareTurn (exchanges : List Exchange) : Type 0 where
  pub called : length (calls_in exchanges) ≡ length exchanges
  pub bids : AreBidsOfOne (calls_in exchanges)
  pub beside : AreBeside (map call_of (calls_in exchanges))

-- ---- sessions

-- One link: the bytes read, the requests after whose replies the link went on, the one at which it ended, where there
-- is one, and those behind it that had shared its turn, the bytes left over, what was due to be written at the end, and
-- the part of that which was written.
pub record Session : Type 0 where
  pub read : List ℕ
  pub exchanges : List Exchange
  pub last : List Exchange
  pub rest : List ℕ
  pub due : List ℕ
  pub tail : List ℕ
  pub ended : End

-- How a link ends, with so many requests before the last one: the last request, the bytes left over, what is due, and
-- what was written of it.
abbrev pub EndsWith : ℕ → End → List Exchange → List ℕ → List ℕ → List ℕ → Type 0
EndsWith turns end.EndOfInput last rest due tail = (last ≡ []) × (rest ≡ []) × (due ≡ [])
EndsWith turns end.CutShort last rest due tail = (last ≡ []) × (rest ≢ []) × IsFront rest More × (due ≡ [])
EndsWith turns end.ReadFault last rest due tail = (last ≡ []) × IsFront rest More × (due ≡ [])
EndsWith turns (end.BadRequest code) last rest due tail =
    (last ≡ []) × IsFront rest (Bad code) × (due ≡ bad_front code) × (tail ≡ due)
EndsWith turns end.Asked last rest due tail =
    (e : Exchange) × (last ≡ e ∷ []) × (e.request.close ≡ true) × IsTold e.said × (due ≡ reply_of e true) × (tail ≡ due)
EndsWith turns end.Turns last rest due tail = (e : Exchange) × (last ≡ e ∷ []) × LetsGoOn e × (turns + 1 ≡ most_turns)
    × (due ≡ reply_of e true) × (tail ≡ due)
EndsWith turns end.WriteFault last rest due tail =
    ((e : Exchange) × (others : List Exchange) × (last ≡ e ∷ others) × ((others ≡ []) ⊎ ShareTurn last)
    × IsTold e.said × (due ≡ reply_of e (closes_at turns e.request)))
    ⊎ ((code : ℕ) × (last ≡ []) × IsFront rest (Bad code) × (due ≡ bad_front code))
EndsWith turns end.OutOfMemory last rest due tail =
    (due ≡ no_memory) × (((last ≡ []) × HoldsNone rest) ⊎ ((e : Exchange) × (last ≡ e ∷ []) × MayLack e.said))

-- with so many requests before the last one: no whole request is left, or the last one's reply closes
abbrev pub LeavesNone : ℕ → List Exchange → List ℕ → Type 0
LeavesNone turns last rest =
    ((last ≡ []) × HoldsNone rest) ⊎ ((e : Exchange) × (last ≡ e ∷ []) × (closes_at turns e.request ≡ true))

-- all requests that came are answered: what was due at the end is written whole, and none is left
abbrev pub AnswersAll : ℕ → Session → Type 0
AnswersAll turns s = (s.tail ≡ s.due) × LeavesNone (turns + length s.exchanges) s.last s.rest

-- the input ended
abbrev pub IsEndOfInput : End → Type 0
IsEndOfInput ended = (ended ≡ end.EndOfInput) ⊎ (ended ≡ end.CutShort)

-- A session that begins after so many requests, with these bytes waiting, under this fixed part.
pub record IsSession (fixed : List ℕ) (turns : ℕ) (waiting : List ℕ) (old new : LinkState) (s : Session) : Type 0 where
  -- the requests are cut from the bytes, one after the other
  pub cuts : AreCut (s.exchanges ++ s.last) (waiting ++ s.read) s.rest
  pub are_exchanges : All (IsExchange fixed) (s.exchanges ++ s.last)
  pub goes_on : All LetsGoOn s.exchanges
  pub few : turns + length s.exchanges < most_turns
  -- the bytes written are the replies in order, and the part of what was due at the end
  pub moved : Moved old new s.read (replies_of s.exchanges ++ s.tail)
  pub begins : Begins s.tail s.due
  pub whole : (s.tail ≡ s.due) ⊎ Rose old.sink.faults new.sink.faults
  pub ends : EndsWith (turns + length s.exchanges) s.ended s.last s.rest s.due s.tail
  pub read_fault : s.ended ≡ end.ReadFault → Rose old.source.faults new.source.faults
  pub write_fault : s.ended ≡ end.WriteFault → Rose old.sink.faults new.sink.faults
  pub end_of_input : IsEndOfInput s.ended → AtEnd new
  pub none_ahead : NeverReadsAhead s.exchanges s.ended waiting s.read s.tail old new

-- one link was served: its requests became the calls that the pass gained
pub record ServesLink (turns : ℕ) (waiting : List ℕ) (old new : View) (link after : LinkState) (ended : End)
    : Type 0 where
  pub session : Session
  pub ended_is : session.ended ≡ ended
  pub is_session : IsSession old.fixed turns waiting link after session
  pub gains : Gains old new (calls_in (session.exchanges ++ session.last))
