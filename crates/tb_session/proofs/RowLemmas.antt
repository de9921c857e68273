-- Bids that wait in a row, their turn and their replies.
use Rattle.std.proofs.Common.{get_or, Option, ◌≡◌, ℕ, zero, suc, ◌+◌, ◌<◌, inl, inr, List, [], ◌∷◌, ◌++◌, length, map, take, drop, Some, false, refl, sym, ap, ◌∙◌, subst, arith, length-take, length-drop, drop-drop}
use Rattle.std.specs.Prelude.{All, Bool, if◌then◌else◌, ◌||◌, ◌==◌, Result, Ok, Err, IfOk, IfErr, is_ok, is_err}
use Rattle.std.proofs.lemmas.Bool.Decides.{nat_tests}
use Rattle.std.proofs.lemmas.List.{append-nil, take-append-drop, length-map, take_more, drop_more, get_or-take}
use Rattle.std.proofs.lemmas.List.Elements.{All-nil, All-cons, All-head, All-tail, All-take, All-drop}
use Rattle.tb_gates.specs.Links.{LinkState, Moved}
use Rattle.tb_gates.proofs.CallerLemmas.{moved-nothing, moved-then}
use Rattle.tb_link.proofs.CallerLemmas.{Rose-later}
use Rattle.tb_message.specs.declared.key.Key.{Key}
use Rattle.tb_message.specs.declared.message.Message.{Message}
use Rattle.tb_message.specs.declared.verdict.Verdict.{Verdict}
use Rattle.tb_terms.specs.declared.refusal.Refusal.{Refusal}
use Rattle.tb_message.specs.Spelling.{IsNumbered}
use Rattle.tb_core.specs.House.{IsBid}
use Rattle.tb_desk.specs.Turn.{AreBids, AreNumbered}
use Rattle.tb_wire.specs.declared.cutting.Target.{Target}
use Rattle.tb_wire.specs.declared.cutting.Target.TheVariants as target
use Rattle.tb_wire.specs.declared.cutting.HttpRequest.{HttpRequest}
use Rattle.tb_lock.specs.declared.view.View.{View}
use Rattle.tb_session.specs.declared.answer.Answer.{Answer}
use Rattle.tb_session.specs.declared.answer.Answer.TheVariants as answer
use Rattle.tb_session.specs.declared.answer.GroupAnswer.{GroupAnswer}
use Rattle.tb_session.specs.declared.answer.GroupAnswer.TheVariants as group
use Rattle.tb_session.specs.declared.write.Unsent.{Unsent}
use Rattle.tb_session.specs.declared.write.Unsent.TheVariants as unsent
use Rattle.tb_session.specs.declared.called.Ask.{Ask}
use Rattle.tb_session.specs.declared.end.End.{End}
use Rattle.tb_session.specs.declared.end.End.TheVariants as end
use Rattle.tb_session.specs.Codes.{Made, call_of}
use Rattle.tb_session.specs.Gains.{AreBeside, AreBidsOfOne, BecameCalls, Gains, GainsTogether, IsBidWith, IsPlain}
use Rattle.tb_session.specs.Replies.{reply_text, IsTold}
use Rattle.tb_session.specs.Rows.{AreInRow, AreWritten, FailsAt, IsBidRequest}
use Rattle.tb_session.specs.CodeLaws.{get_or-map}
use Rattle.tb_session.specs.Groups.{GainsGroup, answer_at, answers_at}
use Rattle.tb_session.specs.Turned.{CanBeTold}
use Rattle.tb_session.specs.Serving.{Fails, Sends, ServesOn}
use Rattle.tb_session.specs.Session.{AreCut, Asks, Becomes, Exchange, IsExchange, LetsGoOn, ServesLink, ShareTurn, TakeTurns, Wrote, body_of, calls_in, closes_at, most_turns, replies_of, reply_of}
use Rattle.tb_session.proofs.StepLemmas.{ahead-nothing}
use Rattle.tb_session.proofs.SessionLemmas.{never-end, serves-ends, serves-nothing, serves-then}

-- a bid more stands in the row
pub row-push : (k : Key) (bytes rest : List ℕ) (requests : List HttpRequest)
    (bids : List (ℕ × Message)) (r : HttpRequest)
    (asked : ℕ × Message)
    → AreInRow k bytes rest requests bids
    → IsBidRequest k r rest asked
    → AreInRow k bytes (drop r.used rest) (requests ++ r ∷ []) (bids ++ asked ∷ [])
row-push k bytes rest [] [] r asked are one =
    (subst (λ (l : List ℕ). IsBidRequest k r l asked) (sym are) one, ap (λ (l : List ℕ). drop r.used l) are)
row-push k bytes rest [] (other ∷ bids) r asked are one = absurd are
row-push k bytes rest (first ∷ requests) [] r asked are one = absurd are
row-push k bytes rest (first ∷ requests) (other ∷ bids) r asked are one =
    (are.0, row-push k (drop first.used bytes) rest requests bids r asked are.1 one)

-- what a row asks for are bids, which can be kept under their numbers
pub row-bids : (k : Key) (bytes rest : List ℕ) (requests : List HttpRequest) (bids : List (ℕ × Message))
    → AreInRow k bytes rest requests bids → AreBids bids
row-bids k bytes rest [] [] are = All-nil (λ (asked : ℕ × Message). IsBid asked.1)
row-bids k bytes rest [] (asked ∷ bids) are = absurd are
row-bids k bytes rest (r ∷ requests) [] are = absurd are
row-bids k bytes rest (r ∷ requests) (asked ∷ bids) are =
    All-cons (λ (one : ℕ × Message). IsBid one.1) asked bids are.0.bid
    (row-bids k (drop r.used bytes) rest requests bids are.1)

-- and each is numbered
pub row-numbered : (k : Key) (bytes rest : List ℕ) (requests : List HttpRequest) (bids : List (ℕ × Message))
    → AreInRow k bytes rest requests bids → AreNumbered bids
row-numbered k bytes rest [] [] are = All-nil (λ (asked : ℕ × Message). IsNumbered asked.0 asked.1)
row-numbered k bytes rest [] (asked ∷ bids) are = absurd are
row-numbered k bytes rest (r ∷ requests) [] are = absurd are
row-numbered k bytes rest (r ∷ requests) (asked ∷ bids) are =
    All-cons (λ (one : ℕ × Message). IsNumbered one.0 one.1) asked bids are.0.numbered
    (row-numbered k (drop r.used bytes) rest requests bids are.1)

-- what was pushed stands last
pub pushed : {X E : Type 0} (result : Result (Unit {0}) E) (after before : List X) (x : X)
    → after ≡ (if is_ok result then before ++ x ∷ [] else before)
    → is_err result ≡ false
    → after ≡ before ++ x ∷ []
pushed (Ok done) after before x is fine = is
pushed (Err e) after before x is fine = absurd (let bad : ⊥ = cc in bad)

-- the row of one bid
pub row-one : (k : Key) (waiting : List ℕ) (r : HttpRequest) (asked : ℕ × Message) (items before : List (ℕ × Message))
    → before ≡ []
    → items ≡ before ++ asked ∷ []
    → IsBidRequest k r waiting asked
    → AreInRow k waiting (drop r.used waiting) (r ∷ []) items
row-one k waiting r asked items before none is one =
    subst (λ (l : List (ℕ × Message)). AreInRow k waiting (drop r.used waiting) (r ∷ []) l)
    (sym (is ∙ ap (λ (l : List (ℕ × Message)). l ++ asked ∷ []) none)) (one, refl)

-- one bid more in a row that uses so many bytes
pub row-more : (k : Key) (waiting : List ℕ) (used : ℕ) (requests : List HttpRequest) (r : HttpRequest)
    (asked : ℕ × Message)
    (items before : List (ℕ × Message))
    → AreInRow k waiting (drop used waiting) requests before
    → items ≡ before ++ asked ∷ []
    → IsBidRequest k r (drop used waiting) asked
    → AreInRow k waiting (drop (used + r.used) waiting) (requests ++ r ∷ []) items
row-more k waiting used requests r asked items before are is one =
    subst (λ (l : List ℕ). AreInRow k waiting l (requests ++ r ∷ []) items)
    (drop-drop r.used used waiting ∙ ap (λ (n : ℕ). drop n waiting) (omega arith))
    (subst (λ (l : List (ℕ × Message)). AreInRow k waiting (drop r.used (drop used waiting)) (requests ++ r ∷ []) l)
    (sym is) (row-push k waiting (drop used waiting) requests before r asked are one))

-- an answer that takes no memory can be told
pub plain-printable : (said : Answer) → IsPlain said → CanBeTold said
plain-printable (answer.Verdict said) plain = tt
plain-printable (answer.Reading reading) plain = absurd plain
plain-printable answer.DiskFault plain = tt
plain-printable answer.OutOfMemory plain = tt

-- and where its reply was not sent the write failed
pub plain-fails : (a b : LinkState) (said : Answer) (bytes : List ℕ) (why : Unsent)
    → IsPlain said
    → Sends a b said bytes (Err why)
    → Fails a b bytes
plain-fails a b said bytes unsent.WriteFault plain sends = sends.0
plain-fails a b (answer.Verdict said) bytes unsent.OutOfMemory plain sends = absurd sends.1
plain-fails a b (answer.Reading reading) bytes unsent.OutOfMemory plain sends = absurd plain
plain-fails a b answer.DiskFault bytes unsent.OutOfMemory plain sends = absurd sends.1
plain-fails a b answer.OutOfMemory bytes unsent.OutOfMemory plain sends = absurd plain

-- the answers from a place on
pub answers-from : (said : GroupAnswer) (places : List (Option Verdict)) (count place : ℕ) (here : Option Verdict)
    → place < count
    → length (answers_at said places count) ≡ count
    → here ≡ get_or places place here
    → drop place (answers_at said places count)
    ≡ answer_at said here ∷ drop (place + 1) (answers_at said places count)
answers-from said places count place here within counted is =
    let answers = answers_at said places count in
    drop_more answers place (answer_at said here) (omega (arith, counted, within))
    ∙ ap (λ (a : Answer). a ∷ drop (place + 1) answers)
    (get_or-map (λ (p : Option Verdict). answer_at said p) (take count places) place here
    (omega (arith, length-map (take count places) (λ (p : Option Verdict). answer_at said p), within, counted))
    ∙ ap (λ (p : Option Verdict). answer_at said p) (get_or-take count places place here within ∙ sym is))

-- the answers up to the next place
answers-next : (answers : List Answer) (place : ℕ) (said : Answer) (others : List Answer)
    → drop place answers ≡ said ∷ others
    → take (place + 1) answers ≡ take place answers ++ said ∷ []
answers-next answers place said others is =
    let within : place < length answers =
    omega (arith, ap length is, length-drop place answers) in
    let same : get_or answers place said ≡ said =
    (let all = sym (drop_more answers place said within) ∙ is in cc) in
    take_more answers place said within ∙ ap (λ (a : Answer). take place answers ++ a ∷ []) same

-- one reply more
written-more : (a b c : LinkState) (answers : List Answer) (said : Answer)
    → AreWritten a b answers
    → Wrote b c (reply_text said target.Messages false)
    → AreWritten a c (answers ++ said ∷ [])
written-more a b c [] said none wrote =
    (c, subst (λ (x : LinkState). Wrote x c (reply_text said target.Messages false)) none wrote, refl)
written-more a b c (first ∷ answers) said written wrote =
    (written.0, written.1, written-more written.0 b c answers said written.2 wrote)

-- the answer of a place is one that takes no memory, where all are
pub plain-at : (answers : List Answer) (place : ℕ) (said : Answer) (others : List Answer)
    → drop place answers ≡ said ∷ others
    → All IsPlain answers
    → IsPlain said
plain-at answers place said others is plain =
    All-head IsPlain said others (subst (λ (l : List Answer). All IsPlain l) is (All-drop IsPlain place answers plain))

-- so far these replies were written, and the next one is
pub replies-on : (a b c : LinkState) (answers : List Answer) (place : ℕ) (said : Answer) (others : List Answer)
    → drop place answers ≡ said ∷ others
    → AreWritten a b (take place answers)
    → Wrote b c (reply_text said target.Messages false)
    → AreWritten a c (take (place + 1) answers)
replies-on a b c answers place said others is so_far one =
    subst (λ (l : List Answer). AreWritten a c l) (sym (answers-next answers place said others is))
    (written-more a b c (take place answers) said so_far one)

-- or its write fails
pub replies-fail : (a b c : LinkState) (answers : List Answer) (place : ℕ) (said : Answer) (others : List Answer)
    → drop place answers ≡ said ∷ others
    → AreWritten a b (take place answers)
    → Fails b c (reply_text said target.Messages false)
    → FailsAt a c answers place
replies-fail a b c answers place said others is so_far fails = record {
  said = said;
  others = others;
  split = is;
  within = omega (arith, ap length is, length-drop place answers);
  between = b;
  written = so_far;
  fails = fails;
}

-- an answer that takes no memory is told
plain-told : (said : Answer) → IsPlain said → IsTold said
plain-told (answer.Verdict said) plain = tt
plain-told (answer.Reading reading) plain = tt
plain-told answer.DiskFault plain = tt
plain-told answer.OutOfMemory plain = absurd plain

-- the request was posted, doesn't close the link, and became a call
pub record IsPosted (e : Exchange) : Type 0 where
  pub posted : e.request.target ≡ target.Messages
  pub stays : e.request.close ≡ false
  pub made : Made
  pub call : e.call ≡ Some made

-- what is said of the bids of a row that shared a turn
pub record AreServed (fixed : List ℕ) (bytes rest : List ℕ) (made : List Made) (answers : List Answer) : Type 0 where
  pub exchanges : List Exchange
  pub cuts : AreCut exchanges bytes rest
  pub are_exchanges : All (IsExchange fixed) exchanges
  pub goes_on : All LetsGoOn exchanges
  pub posted : All IsPosted exchanges
  pub calls : calls_in exchanges ≡ made
  pub said : map (λ e. e.said) exchanges ≡ answers

-- it is so
pub are-served : (fixed : List ℕ) (k : Key) (bytes rest : List ℕ) (requests : List HttpRequest)
    (bids : List (ℕ × Message))
    (made : List Made) (answers : List Answer)
    → AreInRow k bytes rest requests bids
    → BecameCalls fixed k bids made answers
    → All IsPlain answers
    → AreServed fixed bytes rest made answers
are-served fixed k bytes rest [] [] [] [] are became plain = record {
  exchanges = [];
  cuts = are;
  are_exchanges = All-nil (IsExchange fixed);
  goes_on = All-nil LetsGoOn;
  posted = All-nil IsPosted;
  calls = refl;
  said = refl;
}
are-served fixed k bytes rest (r ∷ requests) (asked ∷ bids) (m ∷ made) (said ∷ answers) are became plain =
    let more = are-served fixed k (drop r.used bytes) rest requests bids made answers are.1 became.3
    (All-tail IsPlain said answers plain) in
    let one : IsBidRequest k r bytes asked = are.0 in
    let e : Exchange = record { request = r; body = body_of r bytes; call = Some m; said = said } in
    let asks : Asks r.target (body_of r bytes) m.called.ask =
    subst (λ (t : Target). Asks t (body_of r bytes) m.called.ask) (sym one.posted)
    (subst (λ (a : Ask). Asks target.Messages (body_of r bytes) a) (sym became.1) one.asks) in
    let is : IsExchange fixed e =
    subst (λ (found : Result Key Refusal). Becomes fixed r (body_of r bytes) found (Some m) said) (sym one.key_is)
    (became.0, asks, became.2) in
    record {
      exchanges = e ∷ more.exchanges;
      cuts = (one.front, refl, more.cuts);
      are_exchanges = All-cons (IsExchange fixed) e more.exchanges is more.are_exchanges;
      goes_on = All-cons LetsGoOn e more.exchanges
          (one.stays, plain-told said (All-head IsPlain said answers plain)) more.goes_on;
      posted = All-cons IsPosted e more.exchanges
          (record { posted = one.posted; stays = one.stays; made = m; call = refl }) more.posted;
      calls = ap (λ (l : List Made). m ∷ l) more.calls;
      said = ap (λ (l : List Answer). said ∷ l) more.said;
    }
are-served fixed k bytes rest [] [] [] (said ∷ answers) are became plain = absurd became
are-served fixed k bytes rest [] [] (m ∷ made) answers are became plain = absurd became
are-served fixed k bytes rest [] (asked ∷ bids) made answers are became plain = absurd are
are-served fixed k bytes rest (r ∷ requests) [] made answers are became plain = absurd are
are-served fixed k bytes rest (r ∷ requests) (asked ∷ bids) [] answers are became plain = absurd became
are-served fixed k bytes rest (r ∷ requests) (asked ∷ bids) (m ∷ made) [] are became plain = absurd became

-- as many bids as calls
pub as-many : (fixed : List ℕ) (k : Key) (bids : List (ℕ × Message)) (made : List Made) (answers : List Answer)
    → BecameCalls fixed k bids made answers
    → (length made ≡ length bids) × (length answers ≡ length bids)
as-many fixed k [] [] [] became = (refl, refl)
as-many fixed k [] [] (said ∷ answers) became = absurd became
as-many fixed k [] (m ∷ made) answers became = absurd became
as-many fixed k (asked ∷ bids) [] answers became = absurd became
as-many fixed k (asked ∷ bids) (m ∷ made) [] became = absurd became
as-many fixed k (asked ∷ bids) (m ∷ made) (said ∷ answers) became =
    let more = as-many fixed k bids made answers became.3 in (omega (arith, more.0), omega (arith, more.1))

-- the reply to a bid that was posted
posted-reply : (e : Exchange) (a b : LinkState) → IsPosted e → Wrote a b (reply_text e.said target.Messages false)
    → Wrote a b (reply_of e false)
posted-reply e a b one wrote = subst (λ (t : Target). Wrote a b (reply_text e.said t false)) (sym one.posted) wrote

-- what the replies to them moved
replies-moved : (exchanges : List Exchange) (a b : LinkState) → All IsPosted exchanges
    → AreWritten a b (map (λ e. e.said) exchanges)
    → Moved a b [] (replies_of exchanges)
replies-moved [] a b posted none = subst (λ (x : LinkState). Moved a x [] []) (sym none) (moved-nothing a)
replies-moved (e ∷ exchanges) a b posted written =
    let one = posted-reply e a written.0 (All-head IsPosted e exchanges posted) written.1 in
    moved-then a written.0 b [] (reply_of e false) [] (replies_of exchanges) one.moved
    (replies-moved exchanges written.0 b (All-tail IsPosted e exchanges posted) written.2)

-- each took its turn, and nothing was read
replies-turns : (exchanges : List Exchange) (waiting rest : List ℕ) (a b : LinkState) → All IsPosted exchanges
    → AreCut exchanges waiting rest
    → AreWritten a b (map (λ e. e.said) exchanges)
    → TakeTurns exchanges waiting [] rest a b
replies-turns [] waiting rest a b posted cut none = (refl, sym cut, none)
replies-turns (e ∷ exchanges) waiting rest a b posted cut written = (
  [],
  [],
  written.0,
  refl,
  record {
    heard = a;
    none_ahead = ahead-nothing a waiting;
    wrote = posted-reply e a written.0 (All-head IsPosted e exchanges posted) written.1;
  },
  subst (λ (l : List ℕ). TakeTurns exchanges (drop e.request.used l) [] rest written.0 b) (sym (append-nil waiting))
      (replies-turns exchanges (drop e.request.used waiting) rest written.0 b (All-tail IsPosted e exchanges posted)
      cut.2 written.2),
)

-- the answers to the first of them
said-first : (p : ℕ) (exchanges : List Exchange)
    → map (λ e. e.said) (take p exchanges) ≡ take p (map (λ e. e.said) exchanges)
said-first zero exchanges = refl
said-first (suc p) [] = refl
said-first (suc p) (e ∷ exchanges) = ap (λ (l : List Answer). e.said ∷ l) (said-first p exchanges)

-- the first of them are cut, and leave the others
cut-first : (first last : List Exchange) (bytes rest : List ℕ) → AreCut (first ++ last) bytes rest
    → (left : List ℕ) × AreCut first bytes left
cut-first [] last bytes rest cut = (bytes, refl)
cut-first (e ∷ first) last bytes rest cut =
    let more = cut-first first last (drop e.request.used bytes) rest cut.2 in (more.0, (cut.0, cut.1, more.1))

-- the call of the first
calls-more : (e : Exchange) (m : Made) (exchanges : List Exchange) → e.call ≡ Some m
    → calls_in (e ∷ exchanges) ≡ m ∷ calls_in exchanges
calls-more e m exchanges is = rw is refl

-- the calls of the last ones
calls-left : (p : ℕ) (exchanges : List Exchange) → All IsPosted exchanges
    → calls_in (drop p exchanges) ≡ drop p (calls_in exchanges)
calls-left zero exchanges posted = refl
calls-left (suc p) [] posted = refl
calls-left (suc p) (e ∷ exchanges) posted =
    let one = All-head IsPosted e exchanges posted in
    calls-left p exchanges (All-tail IsPosted e exchanges posted)
    ∙ ap (λ (l : List Made). drop (suc p) l) (sym (calls-more e one.made exchanges one.call))

-- each has one
calls-length : (exchanges : List Exchange) → All IsPosted exchanges → length (calls_in exchanges) ≡ length exchanges
calls-length [] posted = refl
calls-length (e ∷ exchanges) posted =
    let one = All-head IsPosted e exchanges posted in
    omega (
      arith,
      ap (λ (l : List Made). length l) (calls-more e one.made exchanges one.call),
      calls-length exchanges (All-tail IsPosted e exchanges posted),
    )

-- the last calls of a turn stand beside each other too
beside-left : (p : ℕ) (made : List Made) → AreBeside (map call_of made) → AreBeside (map call_of (drop p made))
beside-left zero made beside = beside
beside-left (suc p) [] beside = tt
beside-left (suc p) (m ∷ made) beside = beside-left p made beside.1

-- the request at a place, and those behind it
at-place : (p : ℕ) (exchanges : List Exchange) (said : Answer) (others : List Answer)
    → drop p (map (λ e. e.said) exchanges) ≡ said ∷ others
    → (e : Exchange) × (es : List Exchange) × (drop p exchanges ≡ e ∷ es) × (e.said ≡ said)
at-place zero [] said others is = absurd (let bad : ⊥ = cc in bad)
at-place zero (e ∷ exchanges) said others is = (e, exchanges, refl, (let same : e.said ≡ said = cc in same))
at-place (suc p) [] said others is = absurd (let bad : ⊥ = cc in bad)
at-place (suc p) (e ∷ exchanges) said others is = at-place p exchanges said others is

-- the bids that wait shared a turn
module _ (turns : ℕ) (k : Key) (waiting rest : List ℕ) (v0 v1 : View) (a b : LinkState) (requests : List HttpRequest)
    (bids : List (ℕ × Message)) (answers : List Answer) (are : AreInRow k waiting rest requests bids)
    (gains : GainsTogether v0 v1 k bids answers) (few : turns + length bids < most_turns) where
  -- what the requests became
  abbrev served : AreServed v0.fixed waiting rest gains.made answers
  served = are-served v0.fixed k waiting rest requests bids gains.made answers are gains.became gains.plain

  -- their exchanges
  abbrev all : List Exchange
  all = served.exchanges

  -- there is one for each bid
  long : length all ≡ length bids
  long =
      omega (
        arith,
        calls-length all served.posted,
        ap (λ (l : List Made). length l) served.calls,
        (as-many v0.fixed k bids gains.made answers gains.became).0,
      )

  -- the pass gained their calls
  gains_all : Gains v0 v1 (calls_in all)
  gains_all = subst (λ (l : List Made). Gains v0 v1 l) (sym served.calls) gains.gains

  -- their replies
  by_exchange : AreWritten a b answers → AreWritten a b (map (λ e. e.said) all)
  by_exchange written = subst (λ (l : List Answer). AreWritten a b l) (sym served.said) written

  -- the link goes on after their replies
  pub row-on : AreWritten a b answers → ServesOn turns (length bids) waiting v0 v1 a b rest
  row-on written = record {
    exchanges = all;
    read = [];
    counted = long;
    progress = record {
      cuts = subst (λ (l : List ℕ). AreCut all l rest) (sym (append-nil waiting)) served.cuts;
      are_exchanges = served.are_exchanges;
      goes_on = served.goes_on;
      few = omega (arith, few, long);
      moved = replies-moved all a b served.posted (by_exchange written);
      turns_taken = replies-turns all waiting rest a b served.posted served.cuts (by_exchange written);
    };
    gains = gains_all;
  }

  -- a write failed at one of them
  pub row-unwritten : (place : ℕ) → FailsAt a b answers place → ServesLink turns waiting v0 v1 a b end.WriteFault
  row-unwritten place fails =
      let first = take place all in
      let last = drop place all in
      let whole : first ++ last ≡ all = take-append-drop place all in
      let found = at-place place all fails.said fails.others
      (ap (λ (l : List Answer). drop place l) served.said ∙ fails.split) in
      let within : place < length all =
      omega (
        arith,
        fails.within,
        long,
        (as-many v0.fixed k bids gains.made answers gains.became).1,
      ) in
      let before : length first ≡ place = omega (arith, length-take place all, within) in
      let lasts : All IsPosted last = All-drop IsPosted place all served.posted in
      let one : IsPosted found.0 =
      All-head IsPosted found.0 found.1 (subst (λ (l : List Exchange). All IsPosted l) found.2 lasts) in
      let told : LetsGoOn found.0 =
      All-head LetsGoOn found.0 found.1
      (subst (λ (l : List Exchange). All LetsGoOn l) found.2 (All-drop LetsGoOn place all served.goes_on)) in
      let made_last : calls_in last ≡ drop place gains.made =
      calls-left place all served.posted ∙ ap (λ (l : List Made). drop place l) served.calls in
      let shared : ShareTurn last = record {
        called = calls-length last lasts;
        bids = subst (λ (l : List Made). AreBidsOfOne l) (sym made_last) (
          omega (arith, length-drop place gains.made, gains.one.1.0),
          (
            gains.one.1.1.0,
            All-drop (IsBidWith gains.one.1.1.0) place gains.made gains.one.1.1.1,
          ),
        );
        beside = subst (λ (l : List Made). AreBeside (map call_of l)) (sym made_last)
            (beside-left place gains.made gains.beside);
      } in
      let open_link : closes_at (turns + length first) found.0.request ≡ false =
      closes-not (turns + length first) found.0.request one.stays (omega (arith, before, within, long, few)) in
      let due = reply_text fails.said target.Messages false in
      let written : AreWritten a fails.between (map (λ e. e.said) first) =
      subst (λ (l : List Answer). AreWritten a fails.between l)
      (sym (said-first place all ∙ ap (λ (l : List Answer). take place l) served.said)) fails.written in
      let firsts : All IsPosted first = All-take IsPosted place all served.posted in
      let so_far : Moved a fails.between [] (replies_of first) = replies-moved first a fails.between firsts written in
      let cut_all : AreCut (first ++ last) waiting rest =
      subst (λ (l : List Exchange). AreCut l waiting rest) (sym whole) served.cuts in
      let left = cut-first first last waiting rest cut_all in
      let tail : List ℕ = fails.fails.tail in
      let rose = Rose-later a.sink.faults fails.between.sink.faults b.sink.faults so_far.write_count
      fails.fails.rose in
      record {
        session = record {
          read = [];
          exchanges = first;
          last = last;
          rest = rest;
          due = due;
          tail = tail;
          ended = end.WriteFault;
        };
        ended_is = refl;
        is_session = record {
          cuts = subst (λ (l : List ℕ). AreCut (first ++ last) l rest) (sym (append-nil waiting)) cut_all;
          are_exchanges = subst (λ (l : List Exchange). All (IsExchange v0.fixed) l) (sym whole) served.are_exchanges;
          goes_on = All-take LetsGoOn place all served.goes_on;
          few = omega (arith, before, within, long, few);
          moved = moved-then a fails.between b [] (replies_of first) [] tail so_far fails.fails.wrote.moved;
          begins = fails.fails.begins;
          whole = inr rose;
          ends = inl (
            found.0,
            found.1,
            found.2,
            inr shared,
            told.1,
            ap (λ (x : Answer). reply_text x target.Messages false) (sym found.3)
                ∙ (ap (λ (t : Target). reply_text found.0.said t false) (sym one.posted)
                ∙ ap (λ (c : Bool). reply_of found.0 c) (sym open_link)),
          );
          read_fault = λ is. absurd (let bad : ⊥ = cc in bad);
          write_fault = λ is. rose;
          end_of_input = λ is. absurd (never-end end.WriteFault (λ q. cc) (λ q. cc) is);
          none_ahead = record {
            early = [];
            late = [];
            read_is = refl;
            left = left.0;
            told = fails.between;
            turns = replies-turns first waiting left.0 a fails.between firsts left.1 written;
            ends = (fails.between, ahead-nothing fails.between left.0, fails.fails.wrote);
          };
        };
        gains = subst (λ (l : List Exchange). Gains v0 v1 (calls_in l)) (sym whole) gains_all;
      }
    where
      closes-not : (n : ℕ) (r : HttpRequest) → r.close ≡ false → n + 1 < most_turns → closes_at n r ≡ false
      closes-not n r stays less =
          ap (λ (c : Bool). c || (n + 1 == most_turns)) stays ∙ other
        where
          other : (n + 1 == most_turns) ≡ false
          other = grind (arith, nat_tests)

-- a group that had memory shared a turn
pub row-shared : (v0 v1 : View) (k : Key) (bids : List (ℕ × Message)) (said : GroupAnswer)
    (places : List (Option Verdict))
    → (said ≡ group.OutOfMemory → ⊥)
    → GainsGroup v0 v1 k bids said places
    → GainsTogether v0 v1 k bids (answers_at said places (length bids))
row-shared v0 v1 k bids group.Verdicts places memory gains = gains
row-shared v0 v1 k bids group.DiskFault places memory gains = gains
row-shared v0 v1 k bids group.OutOfMemory places memory gains = absurd (memory refl)

-- there is an answer for each bid
pub row-counted : (count : ℕ) (k : Key) (v0 v1 : View) (bids : List (ℕ × Message)) (said : GroupAnswer)
    (places : List (Option Verdict))
    → count ≡ length bids
    → GainsTogether v0 v1 k bids (answers_at said places (length bids))
    → length (answers_at said places count) ≡ count
row-counted count k v0 v1 bids said places is gains =
    subst (λ (n : ℕ). length (answers_at said places n) ≡ n) (sym is)
    (as-many v0.fixed k bids gains.made (answers_at said places (length bids)) gains.became).1

-- and none takes memory
pub row-plain : (count : ℕ) (k : Key) (v0 v1 : View) (bids : List (ℕ × Message)) (said : GroupAnswer)
    (places : List (Option Verdict))
    → count ≡ length bids
    → GainsTogether v0 v1 k bids (answers_at said places (length bids))
    → All IsPlain (answers_at said places count)
row-plain count k v0 v1 bids said places is gains =
    subst (λ (n : ℕ). All IsPlain (answers_at said places n)) (sym is) gains.plain

-- by the answers that the places tell
module _ (turns count : ℕ) (k : Key) (waiting rest : List ℕ) (v0 v1 : View) (a b : LinkState)
    (requests : List HttpRequest) (bids : List (ℕ × Message)) (said : GroupAnswer) (places : List (Option Verdict))
    (are : AreInRow k waiting rest requests bids) (is : count ≡ length bids)
    (gains : GainsTogether v0 v1 k bids (answers_at said places (length bids)))
    (few : turns + length bids < most_turns) where
  -- the link goes on where all replies were written
  pub told-on : (left : List ℕ) → left ≡ rest → AreWritten a b (answers_at said places count)
      → ServesOn turns count waiting v0 v1 a b left
  told-on left same written =
      subst (λ (l : List ℕ). ServesOn turns count waiting v0 v1 a b l) (sym same)
      (subst (λ (n : ℕ). ServesOn turns n waiting v0 v1 a b rest) (sym is)
      (row-on turns k waiting rest v0 v1 a b requests bids (answers_at said places (length bids)) are gains few
      (subst (λ (n : ℕ). AreWritten a b (answers_at said places n)) is written)))

  -- and ends at the reply that wasn't
  pub told-unwritten : (place : ℕ) → FailsAt a b (answers_at said places count) place
      → ServesLink turns waiting v0 v1 a b end.WriteFault
  told-unwritten place fails =
      row-unwritten turns k waiting rest v0 v1 a b requests bids (answers_at said places (length bids)) are gains few
      place (subst (λ (n : ℕ). FailsAt a b (answers_at said places n) place) is fails)

-- a turn in which no call was made, and then
module _ (turns : ℕ) (waiting : List ℕ) (v0 v1 v2 : View) (a b : LinkState) (few : turns < most_turns)
    (none : Gains v0 v1 []) where
  -- the link served nothing in that turn
  nothing : ServesOn turns 0 waiting v0 v1 a a waiting
  nothing = serves-nothing turns waiting v0 v1 a few none

  -- so what it serves then is all that it serves
  pub after-none-on : (count : ℕ) (left : List ℕ) → ServesOn turns count waiting v1 v2 a b left
      → ServesOn turns count waiting v0 v2 a b left
  after-none-on count left on =
      subst (λ (n : ℕ). ServesOn turns n waiting v0 v2 a b left) (omega arith)
      (serves-then turns 0 count turns waiting waiting left v0 v1 v2 a a b (omega arith) nothing on)

  -- and it ends as it does then
  pub after-none-ended : (ended : End) → ServesLink turns waiting v1 v2 a b ended
      → ServesLink turns waiting v0 v2 a b ended
  after-none-ended ended link =
      serves-ends turns 0 turns waiting waiting v0 v1 v2 a a b ended (omega arith) nothing link

  -- by what became of it
  pub after-none-ok : (result : Result ℕ End) (left : List ℕ)
      → IfOk result (λ count. ServesOn turns count waiting v1 v2 a b left)
      → IfOk result (λ count. ServesOn turns count waiting v0 v2 a b left)
  after-none-ok (Ok count) left on = after-none-on count left on
  after-none-ok (Err ended) left on = tt

  -- the same where it ended
  pub after-none-err : (result : Result ℕ End)
      → IfErr result (λ ended. ServesLink turns waiting v1 v2 a b ended)
      → IfErr result (λ ended. ServesLink turns waiting v0 v2 a b ended)
  after-none-err (Ok count) link = tt
  after-none-err (Err ended) link = after-none-ended ended link
