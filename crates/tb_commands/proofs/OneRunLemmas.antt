-- Lines have one run from a history.
use Rattle.std.proofs.Common.{◌≡◌, ◌≢◌, ℕ, List, [], ◌∷◌, ◌++◌, sym, subst, ap, ◌∙◌, arith, append-nil}
use Rattle.std.specs.Prelude.{Option, Some, None, Result, Ok, Err}
use Rattle.std.specs.Fmt.{decimal}
use Rattle.tb_units.specs.Bytes.{blank}
use Rattle.tb_units.specs.declared.moment.Moment.{Moment}
use Rattle.tb_link.specs.Counts.{last_count}
use Rattle.tb_desk.specs.Turn.{group}
use Rattle.tb_desk.specs.declared.reply.Reply.{Reply}
use Rattle.tb_desk.specs.declared.reply.Reply.TheVariants as turned
use Rattle.tb_terms.specs.declared.refusal.Refusal.{Refusal}
use Rattle.tb_message.specs.Keys.{key_of}
use Rattle.tb_message.specs.Requests.{AnswerOf, FaultOf, request_in}
use Rattle.tb_message.specs.declared.key.Key.{Key}
use Rattle.tb_message.specs.declared.message.Entry.{Entry}
use Rattle.tb_message.specs.declared.message.Message.{Message}
use Rattle.tb_message.specs.declared.query.Query.{Query}
use Rattle.tb_message.specs.declared.query.ReadFault.{ReadFault}
use Rattle.tb_message.specs.declared.query.ReadFault.TheVariants as fault
use Rattle.tb_message.specs.declared.query.Request.{Request}
use Rattle.tb_message.specs.declared.query.Request.TheVariants as request
use Rattle.tb_message.proofs.OneRequest.{one_asked}
use Rattle.tb_history.specs.Answer.{caller_of, query_refusal}
use Rattle.tb_history.specs.Legal.{running}
use Rattle.tb_history.specs.Verdict.{verdict_on}
use Rattle.tb_history.specs.Roster.{registrations}
use Rattle.tb_history.proofs.ReadingLemmas.{IsReading-one}
use Rattle.std.specs.List.{after_first, before_first}
use Rattle.tb_text_book.specs.Fields.{is_blank}
use Rattle.tb_commands.specs.Replies.{Asks, IsAnswered, IsReply, IsTold, asked_by, reading_text, refusal_of}
use Rattle.tb_commands.specs.ScriptLines.{SpellsAsk}
use Rattle.tb_desk.specs.Desks.{replies_of}
use Rattle.tb_commands.specs.ScriptRun.{IsActedOn, IsRun}
use Rattle.tb_commands.specs.Standings.{Standing}
use Rattle.tb_commands.specs.Turns.{MakesTurn, turn_text}
use Rattle.tb_commands.proofs.GrownLemmas.{line-goes, run-goes}
use Rattle.tb_commands.proofs.TurnLemmas.{Gave-sure, no-fault, said-is, stands-is, stands_at}
use Rattle.tb_commands.proofs.ScriptLineLemmas.{
  NoBlank,
  NoBlank-key,
  NoBlank-moment,
  after_first-word,
  before_first-word,
  moment-one,
}

-- a word, a space and more are told by the whole
words_one : (word other rest rest' : List ℕ)
    → NoBlank word
    → NoBlank other
    → word ++ blank ∷ rest ≡ other ++ blank ∷ rest'
    → (word ≡ other) × (rest ≡ rest')
words_one word other rest rest' none none' is = (
  sym (before_first-word word rest none) ∙ (ap (before_first is_blank) is ∙ before_first-word other rest' none'),
  sym (after_first-word word rest none) ∙ (ap (after_first is_blank) is ∙ after_first-word other rest' none'),
)

-- what a line asks
record SameAsk (moment moment' : Moment) (key key' : Key) (json json' : List ℕ) : Type 0 where
  pub moments : moment ≡ moment'
  pub keys : key ≡ key'
  pub texts : json ≡ json'

-- a line asks one thing
ask-one : (text : List ℕ) (moment moment' : Moment) (key key' : Key) (json json' : List ℕ)
    → SpellsAsk text moment key json
    → SpellsAsk text moment' key' json'
    → SameAsk moment moment' key key' json json'
ask-one text moment moment' key key' json json' one other =
    let front = words_one (decimal moment.seconds) (decimal moment'.seconds) (one.word ++ blank ∷ json)
    (other.word ++ blank ∷ json') (NoBlank-moment moment) (NoBlank-moment moment') (sym one.written ∙ other.written) in
    let back = words_one one.word other.word json json' (NoBlank-key one.word key one.key_is)
    (NoBlank-key other.word key' other.key_is) front.1 in
    let keys : Some key ≡ Some key' = sym one.key_is ∙ (ap key_of back.0 ∙ other.key_is) in
    record { moments = moment-one moment moment' front.0; keys = cc; texts = back.1 }

-- a text that is no request doesn't ask one
no_request : (json : List ℕ) (asked : Request) (at_fault : ReadFault) (why : Refusal)
    → AnswerOf json (Ok asked)
    → FaultOf json at_fault
    → refusal_of at_fault ≡ Some why
    → ⊥
no_request json asked fault.BadJson why is faulty told = faulty is.0 is.1
no_request json asked (fault.BadShape member) why is faulty told =
    let said : Some is.0 ≡ Some faulty.0 = sym is.1.1 ∙ faulty.1.1 in
    let same : is.0 ≡ faulty.0 = cc in
    let asks = sym is.2 ∙ (ap request_in same ∙ faulty.2) in
    absurd (cc)
no_request json asked fault.OutOfMemory why is faulty told = absurd (cc)

-- a text that is no request has one reason
reasons_one : (json : List ℕ) (one other : ReadFault) (why why' : Refusal)
    → FaultOf json one
    → FaultOf json other
    → refusal_of one ≡ Some why
    → refusal_of other ≡ Some why'
    → why ≡ why'
reasons_one json fault.BadJson fault.BadJson why why' is is' told told' = cc
reasons_one json fault.BadJson (fault.BadShape member) why why' is is' told told' = absurd (is is'.0 is'.1)
reasons_one json (fault.BadShape member) fault.BadJson why why' is is' told told' = absurd (is' is.0 is.1)
reasons_one json (fault.BadShape member) (fault.BadShape member') why why' is is' told told' =
    let said : Some is.0 ≡ Some is'.0 = sym is.1.1 ∙ is'.1.1 in
    let same : is.0 ≡ is'.0 = cc in
    let fails = sym is.2 ∙ (ap request_in same ∙ is'.2) in
    cc
reasons_one json fault.OutOfMemory other why why' is is' told told' = absurd (cc)
reasons_one json fault.BadJson fault.OutOfMemory why why' is is' told told' = absurd (cc)
reasons_one json (fault.BadShape member) fault.OutOfMemory why why' is is' told told' = absurd (cc)

-- a text asks one thing
pub asks-one : (json : List ℕ) (one other : Result Request Refusal) → Asks json one → Asks json other → one ≡ other
asks-one json (Ok one) (Ok other) is is' = ap Ok (one_asked json one other is is')
asks-one json (Ok one) (Err why) is is' = absurd (no_request json one is'.0 why is is'.1 is'.2)
asks-one json (Err why) (Ok other) is is' = absurd (no_request json other is.0 why is' is.1 is.2)
asks-one json (Err why) (Err why') is is' = ap Err (reasons_one json is.0 is'.0 why why' is.1 is'.1 is.2 is'.2)

-- a query is told one text
told-one : (history : List Entry) (caller : List ℕ) (asked : Query) (why : Option Refusal) (one other : List ℕ)
    → IsTold history caller asked why one
    → IsTold history caller asked why other
    → one ≡ other
told-one history caller asked (Some why) one other is is' = is ∙ sym is'
told-one history caller asked None one other is is' =
    is.2 ∙ (ap reading_text (IsReading-one history caller asked is.0 is'.0 is.1 is'.1) ∙ sym is'.2)

-- the reply, and where the script stands then
pub record SameReply (one other : List ℕ) (new new' : Standing) : Type 0 where
  pub replies : one ≡ other
  pub stands : new ≡ new'

-- where nothing is in doubt, and the count isn't at its last value
pub record Sure (stands : Standing) : Type 0 where
  pub sure : stands.doubt ≡ []
  pub counting : stands.faults ≢ last_count

-- a turn without a fault is a function of the history: its verdict, and where the script stands then
turn-one : (caller : List ℕ) (moment : Moment) (number : ℕ) (message : Message) (old new : Standing) (answer : Reply)
    → Sure old
    → MakesTurn (asked_by caller moment number message) old new (replies_of answer)
    → new.faults ≡ old.faults
    → (answer ≡ turned.Verdict (verdict_on old.history caller number (running old.history moment) message))
    × (new ≡ stands_at (old.history ++ group old.history (asked_by caller moment number message)) [] old.faults
    old.doubted)
turn-one caller moment number message old new (turned.Verdict said) sure turn same =
    let gave = Gave-sure (asked_by caller moment number message) old new said sure.sure turn in (
      ap turned.Verdict (said-is old.history caller moment number message said new gave),
      stands-is new (old.history ++ group old.history (asked_by caller moment number message)) [] old.faults
          old.doubted gave.grown gave.sure same (turn.doubted ∙ append-nil old.doubted),
    )
turn-one caller moment number message old new turned.DiskFault sure turn same =
    absurd (no-fault old.faults new.faults same sure.counting turn.counts.1)

-- what is asked has one reply
reply-one : (old : Standing) (caller : List ℕ) (moment : Moment) (asked : Result Request Refusal) (one other : List ℕ)
    (new new' : Standing)
    → Sure old
    → IsReply old caller moment asked one new
    → IsReply old caller moment asked other new'
    → new.faults ≡ old.faults
    → new'.faults ≡ old.faults
    → SameReply one other new new'
reply-one old caller moment (Ok (request.Message number message)) one other new new' sure is is' same same' =
    let first = turn-one caller moment number message old new is.0 sure is.1 same in
    let second = turn-one caller moment number message old new' is'.0 sure is'.1 same' in
    record {
      replies = is.2 ∙ (ap turn_text (first.0 ∙ sym second.0) ∙ sym is'.2);
      stands = first.1 ∙ sym second.1;
    }
reply-one old caller moment (Ok (request.Query asked)) one other new new' sure is is' same same' = record {
  replies = told-one old.history caller asked (query_refusal old.history caller asked) one other is.0 is'.0;
  stands = is.1 ∙ sym is'.1;
}
reply-one old caller moment (Err why) one other new new' sure is is' same same' =
    record { replies = is.0 ∙ sym is'.0; stands = is.1 ∙ sym is'.1 }

-- so has a text
answer-one : (old : Standing) (caller : Option (List ℕ)) (moment : Moment) (json one other : List ℕ)
    (new new' : Standing)
    → Sure old
    → IsAnswered old caller moment json one new
    → IsAnswered old caller moment json other new'
    → new.faults ≡ old.faults
    → new'.faults ≡ old.faults
    → SameReply one other new new'
answer-one old None moment json one other new new' sure is is' same same' =
    record { replies = is.0 ∙ sym is'.0; stands = is.1 ∙ sym is'.1 }
answer-one old (Some caller) moment json one other new new' sure is is' same same' =
    let asks = asks-one json is.0 is'.0 is.1 is'.1 in
    reply-one old caller moment is'.0 one other new new' sure
    (subst (λ (asked : Result Request Refusal). IsReply old caller moment asked one new) asks is.2) is'.2 same same'

-- so has a line
line-one : (operator : List ℕ) (old : Standing) (line one other : List ℕ) (new new' : Standing)
    → Sure old
    → IsActedOn operator old line one new
    → IsActedOn operator old line other new'
    → new.faults ≡ old.faults
    → new'.faults ≡ old.faults
    → SameReply one other new new'
line-one operator old line one other new new' sure is is' same same' =
    let asks = ask-one line is.moment is'.moment is.key is'.key is.json is'.json is.spells is'.spells in
    let Answered : Moment → Key → List ℕ → Type 0 =
    λ moment key json. IsAnswered old (caller_of (registrations old.history) operator key) moment json one new in
    answer-one old (caller_of (registrations old.history) operator is'.key) is'.moment is'.json one other new new' sure
    (subst (λ (json : List ℕ). Answered is'.moment is'.key json) asks.texts
    (subst (λ (key : Key). Answered is'.moment key is.json) asks.keys
    (subst (λ (moment : Moment). Answered moment is.key is.json) asks.moments is.answered))) is'.answered same same'

-- and it leaves nothing in doubt
reply-sure : (old new : Standing) (caller : List ℕ) (moment : Moment) (asked : Result Request Refusal) (reply : List ℕ)
    → Sure old
    → IsReply old caller moment asked reply new
    → new.faults ≡ old.faults
    → new.doubt ≡ []
reply-sure old new caller moment (Ok (request.Message number message)) reply sure is same =
    ap (λ (s : Standing). s.doubt) (turn-one caller moment number message old new is.0 sure is.1 same).1
reply-sure old new caller moment (Ok (request.Query asked)) reply sure is same =
    ap (λ (s : Standing). s.doubt) is.1 ∙ sure.sure
reply-sure old new caller moment (Err why) reply sure is same = ap (λ (s : Standing). s.doubt) is.1 ∙ sure.sure

answer-sure : (old new : Standing) (caller : Option (List ℕ)) (moment : Moment) (json reply : List ℕ)
    → Sure old
    → IsAnswered old caller moment json reply new
    → new.faults ≡ old.faults
    → new.doubt ≡ []
answer-sure old new None moment json reply sure is same = ap (λ (s : Standing). s.doubt) is.1 ∙ sure.sure
answer-sure old new (Some caller) moment json reply sure is same =
    reply-sure old new caller moment is.0 reply sure is.2 same

-- where a line without a fault leaves the script
line-sure : (operator : List ℕ) (old new : Standing) (line reply : List ℕ)
    → Sure old
    → IsActedOn operator old line reply new
    → new.faults ≡ old.faults
    → Sure new
line-sure operator old new line reply sure acted same = record {
  sure = answer-sure old new (caller_of (registrations old.history) operator acted.key)
      acted.moment acted.json reply sure
      acted.answered same;
  counting = λ last. sure.counting (sym same ∙ last);
}

-- the count stays at each line where it stays in all
first-stays : (operator : List ℕ) (old next last : Standing) (line reply : List ℕ) (lines : List (List ℕ))
    (replies : List ℕ)
    → IsActedOn operator old line reply next
    → IsRun operator next lines replies last
    → last.faults ≡ old.faults
    → next.faults ≡ old.faults
first-stays operator old next last line reply lines replies acted run same =
    let here = (line-goes operator old next line reply acted).counted in
    let later = (run-goes operator next last lines replies run).counted in
    omega arith

-- so lines have one text of replies, and one end
pub run-one : (operator : List ℕ) (start : Standing) (lines : List (List ℕ)) (one other : List ℕ)
    (last last' : Standing)
    → Sure start
    → IsRun operator start lines one last
    → IsRun operator start lines other last'
    → last.faults ≡ start.faults
    → last'.faults ≡ start.faults
    → SameReply one other last last'
run-one operator start [] one other last last' sure is is' same same' =
    record { replies = is.0 ∙ sym is'.0; stands = is.1 ∙ sym is'.1 }
run-one operator start (line ∷ lines) one other last last' sure is is' same same' =
    let here = first-stays operator start is.1 last line is.0 lines is.2 is.3 is.4 same in
    let here' = first-stays operator start is'.1 last' line is'.0 lines is'.2 is'.3 is'.4 same' in
    let first = line-one operator start line is.0 is'.0 is.1 is'.1 sure is.3 is'.3 here here' in
    let later = run-one operator is'.1 lines is.2 is'.2 last last'
    (line-sure operator start is'.1 line is'.0 sure is'.3 here')
    (subst (λ (s : Standing). IsRun operator s lines is.2 last) first.stands is.4) is'.4
    (same ∙ sym here') (same' ∙ sym here') in
    let replies : one ≡ other =
    is.5 ∙ (ap (λ (r : List ℕ). r ++ is.2) first.replies
    ∙ (ap (λ (r : List ℕ). is'.0 ++ r) later.replies ∙ sym is'.5)) in
    record { replies = replies; stands = later.stands }
