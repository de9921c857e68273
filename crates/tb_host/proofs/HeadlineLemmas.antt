-- The headline follows from one history.
use Rattle.std.proofs.Common.{◌≡◌, ℕ, ◌<◌, Bool, true, false, Option, Some, None, is_some, List, [], ◌∷◌, ◌++◌, get_or, ◌⊎◌, inl, inr, refl, sym, subst, subst₂, ap, ◌∙◌, arith, append_assoc}
use Rattle.std.specs.Prelude.{All, Contains, IfSome}
use Rattle.std.specs.List.{AllByRecursion}
use Rattle.std.proofs.lemmas.Bool.{cases_Bool, leb-false}
use Rattle.std.proofs.lemmas.List.Elements.{All-cons, Contains-append_left, Contains-append_right}
use Rattle.tb_units.specs.declared.moment.Moment.{Moment}
use Rattle.tb_units.specs.declared.rate.Rate.{Rate}
use Rattle.tb_disk.specs.Disks.{DiskState}
use Rattle.tb_disk.specs.Past.{Past, contents_of, MayLeave}
use Rattle.tb_terms.specs.declared.announcement.Announcement.{Announcement}
use Rattle.tb_rules.specs.BidRule.{Standing as Bidder, closing_for}
use Rattle.tb_message.specs.declared.message.Entry.{Entry}
use Rattle.tb_message.specs.declared.message.Message.{Message}
use Rattle.tb_message.specs.declared.message.Message.TheVariants as message
use Rattle.tb_message.specs.declared.query.Query.{Query}
use Rattle.tb_message.specs.declared.query.Query.TheVariants as query
use Rattle.tb_message.specs.declared.verdict.Verdict.TheVariants as verdict
use Rattle.tb_history.specs.declared.reading.Reading.{Reading}
use Rattle.tb_history.specs.declared.reading.Reading.TheVariants as reading
use Rattle.tb_history.specs.Answer.{asks_on, query_refusal}
use Rattle.tb_history.specs.Holdings.{bidding_in}
use Rattle.tb_history.specs.Legal.{IsLegal}
use Rattle.tb_history.specs.OwnPart.{own_part}
use Rattle.tb_history.specs.Readings.{IsReading}
use Rattle.tb_history.specs.Roster.{announcements, announcement_of, is_published}
use Rattle.tb_history.specs.Tables.{rows_of, bid_rows}
use Rattle.tb_history.proofs.AcceptedLemmas.{IsClear, accepted-passes}
use Rattle.tb_history.proofs.ClosedLemmas.{announced-more}
use Rattle.tb_history.proofs.ConservedLemmas.{held-sum}
use Rattle.tb_history.proofs.HistoryLemmas.{IsLegal-front, IsLegal-follows, IsLegal-ordered}
use Rattle.tb_history.proofs.QueryLemmas.{query_refusal-own, shown-refused}
use Rattle.tb_history.proofs.StableLemmas.{AreSame-more, announced-name, closed-announced}
use Rattle.tb_core.proofs.AnswerLemmas.{IsReading-own}
use Rattle.tb_desk.specs.Stands.{StandsForEither}
use Rattle.tb_session.specs.declared.answer.Answer.{Answer}
use Rattle.tb_session.specs.declared.answer.Answer.TheVariants as answer
use Rattle.tb_session.specs.declared.called.Ask.{Ask}
use Rattle.tb_session.specs.declared.called.Ask.TheVariants as ask
use Rattle.tb_session.specs.declared.called.Called.{Called}
use Rattle.tb_session.specs.declared.called.Outcome.{Outcome}
use Rattle.tb_session.specs.declared.called.Outcome.TheVariants as outcome
use Rattle.tb_session.specs.Calls.{caller_on, ComesOut, IsAnswerBy, Tells, TellsQuery}
use Rattle.tb_session.specs.Codes.{Made, operator_in}
use Rattle.tb_commands.specs.DiskRun.{Stays}
use Rattle.tb_host.specs.Headline.{IsAnsweredIn, OneHistory, Acknowledges, KeepsOnce, DiskKeeps, ReadsPublished, IsInTime, IsByTheRule, TellsByTheRule, AsksSealed, RunAlike, IsDecided, IsSealed, AddsUp, CameInTime, Headline, of_calls}
use Rattle.tb_commands.specs.Standings.{Standing}
use Rattle.tb_host.proofs.SealedLemmas.{verdict-own}

-- ---- acknowledged messages are kept

-- the entry of a repeat stands in the history on which it was answered
stood-in : (operator : List ℕ) (history : List Entry) (c : Called) (o : Outcome) (before after : ℕ) (e : Entry)
    → ComesOut operator history c o before after
    → o ≡ outcome.Stood e
    → Contains history e
stood-in operator history c o before after e out is =
    (subst (λ (p : Outcome). ComesOut operator history c p before after) is out).1

-- so the entry of an acknowledged message stands in the last history
acknowledged-in : (fixed : List ℕ) (first last : List Entry) (m : Made) (e : Entry)
    → IsAnsweredIn fixed first last m
    → Acknowledges m e
    → Contains last e
acknowledged-in fixed first last m e here (inl added) =
    let begins = here.accepted e added in
    subst (λ (l : List Entry). Contains l e) (sym begins.1)
    (Contains-append_left (m.history ++ e ∷ []) begins.0 e
    (Contains-append_right m.history (e ∷ []) e (0, omega arith, refl)))
acknowledged-in fixed first last m e here (inr stood) =
    subst (λ (l : List Entry). Contains l e) (sym here.begins.1)
    (Contains-append_left m.history here.begins.0 e
    (stood-in (operator_in fixed) m.history m.called m.called.outcome m.before m.after e here.answered.comes_out stood))

-- a file that stands for the last history, or for it and what is in doubt, keeps the entry
kept-once : (last doubt : List Entry) (e : Entry) (file : List ℕ)
    → IsLegal last
    → IsLegal (last ++ doubt)
    → Contains last e
    → StandsForEither last doubt file
    → KeepsOnce e file
kept-once last doubt e file legal accepted has (inl stands) = record {
  history = last;
  stands = stands;
  legal = legal;
  has = has;
  once = (IsLegal-ordered last legal).numbers;
}
kept-once last doubt e file legal accepted has (inr stands) = record {
  history = last ++ doubt;
  stands = stands;
  legal = accepted;
  has = Contains-append_left last doubt e has;
  once = (IsLegal-ordered (last ++ doubt) accepted).numbers;
}

-- where the disk tells what has happened to it
pub kept-told : (past : Option Past) (disk : DiskState) (last : Standing) (e : Entry)
    → disk.past ≡ past
    → Stays last disk
    → Contains last.history e
    → IfSome past (λ past. (file : List ℕ) → (file ≡ contents_of past) ⊎ MayLeave past file → KeepsOnce e file)
kept-told None disk last e is stays has = tt
kept-told (Some past) disk last e is stays has = λ file either. kept file either
  where
    stands : StandsForEither last.history last.doubt (contents_of past)
    stands = subst (λ (p : Option Past). IfSome p (λ past. StandsForEither last.history last.doubt (contents_of past)))
        is stays.stands

    leaves : (file : List ℕ) → MayLeave past file → StandsForEither last.history last.doubt file
    leaves = subst (λ (p : Option Past). IfSome p
        (λ past. (file : List ℕ) → MayLeave past file → StandsForEither last.history last.doubt file)) is stays.leaves

    kept : (file : List ℕ) → (file ≡ contents_of past) ⊎ MayLeave past file → KeepsOnce e file
    kept file (inl same) =
        kept-once last.history last.doubt e file stays.legal stays.accepted has
        (subst (λ (f : List ℕ). StandsForEither last.history last.doubt f) (sym same) stands)
    kept file (inr left) =
        kept-once last.history last.doubt e file stays.legal stays.accepted has (leaves file left)

-- Recovery keeps every acknowledged message, once.
KeepsAcknowledged-here : (fixed : List ℕ) (first last : Standing) (more : List Entry) (disk : DiskState)
    (calls : List Made)
    → OneHistory (of_calls fixed) first last more calls
    → Stays last disk
    → All (λ m. (e : Entry) → Acknowledges m e → DiskKeeps disk e) calls
KeepsAcknowledged-here fixed first last more disk calls one stays = λ k d within e acknowledged.
    kept-told disk.past disk last e refl stays
    (acknowledged-in fixed first.history last.history (get_or calls k d) e (one.answered k d within) acknowledged)

-- ---- published figures are the rule's

-- what holds of each entry, wherever it stands
each-placed : (P : Entry → Type 0) (whole front rest : List Entry)
    → whole ≡ front ++ rest
    → ((before : List Entry) (e : Entry) (behind : List Entry) → whole ≡ before ++ e ∷ behind → P e)
    → All P rest
each-placed P whole front [] is each = λ k d within. absurd (omega (arith, within))
each-placed P whole front (e ∷ es) is each =
    All-cons P e es (each front e es is)
    (each-placed P whole (front ++ e ∷ []) es (is ∙ sym (append_assoc front (e ∷ []) es)) each)

-- a bid that was let through is of an announced auction, and came before the closing for its kind
abbrev pub WasInTime : Option Announcement → Moment → Option Rate → Type 0
WasInTime found moment rate =
    (a : Announcement) × (found ≡ Some a) × (moment.seconds < (closing_for a rate).seconds)

was-in-time : (found : Option Announcement) (enrolled : Bool) (bidder : Bidder) (moment : Moment)
    (rate : Option Rate) (amount : ℕ)
    → AllByRecursion IsClear (bid_rows found enrolled bidder moment rate amount)
    → WasInTime found moment rate
was-in-time None enrolled bidder moment rate amount clear = absurd (let wrong : true ≡ false = clear.0 in cc)
was-in-time (Some a) enrolled bidder moment rate amount clear =
    (a, refl, omega (arith, leb-false (closing_for a rate).seconds moment.seconds clear.1.1.1.1.0))

-- so did each bid of a legal history
pub bids-in-time : (history : List Entry) → IsLegal history → All (CameInTime history) history
bids-in-time history legal = each-placed (CameInTime history) history [] history refl each
  where
    each : (before : List Entry) (e : Entry) (behind : List Entry)
        → history ≡ before ++ e ∷ behind
        → CameInTime history e
    each before e behind is auction bidder rate amount bids =
        let follows = IsLegal-follows behind before e (subst IsLegal is legal) in
        let passed = accepted-passes before e.submitter e.number e.moment e.message follows.accepted in
        let clear : AllByRecursion IsClear
        (rows_of before e.submitter e.moment (message.Bid auction bidder rate amount)) =
        subst (λ (m : Message). AllByRecursion IsClear (rows_of before e.submitter e.moment m)) bids passed.rows in
        let was = was-in-time (announcement_of (announcements before) auction) _ _ e.moment rate _ clear in (
          was.0,
          subst (λ (h : List Entry). announcement_of (announcements h) auction ≡ Some was.0) (sym is)
              (announced-more (e ∷ behind) before auction was.0 was.1),
          was.2,
        )

-- one found announcement is one
some-one : (one other : Announcement) → Some one ≡ Some other → one ≡ other
some-one one other is = cc

-- each bid of a legal history in an announced auction came in time
in-time : (history : List Entry) (auction : List ℕ) (a : Announcement)
    → IsLegal history
    → announcement_of (announcements history) auction ≡ Some a
    → All (IsInTime a) history
in-time history auction a legal announced = λ k d within named bidder rate amount bids whose.
    let came = bids-in-time history legal k d within named bidder rate amount bids in
    let same_name : a.auction ≡ auction = announced-name (announcements history) auction a announced in
    let here : announcement_of (announcements history) named ≡ Some a =
    subst (λ (n : List ℕ). announcement_of (announcements history) n ≡ Some a) (sym (whose ∙ same_name)) announced in
    subst (λ (x : Announcement). (get_or history k d).moment.seconds < (closing_for x rate).seconds)
    (some-one came.0 a (sym came.1 ∙ here)) came.2

-- what is read of an auction as published is so
published-of : (history : List Entry) (caller auction : List ℕ) (asked : Query)
    → ReadsPublished asked auction
    → query_refusal history caller asked ≡ None
    → is_published history auction ≡ true
published-of history caller auction (query.Results named) whose passed =
    elim (cases_Bool (is_published history named)) [
      | inl is ↦ subst (λ (n : List ℕ). is_published history n ≡ true) whose is
      | inr not ↦
          let shown = shown-refused history caller named (query.Results named) not refl in
          absurd (let wrong : is_some (query_refusal history caller (query.Results named)) ≡ false =
          rw passed refl in cc)
    ]
published-of history caller auction (query.Awards named) whose passed =
    elim (cases_Bool (is_published history named)) [
      | inl is ↦ subst (λ (n : List ℕ). is_published history n ≡ true) whose is
      | inr not ↦
          let shown = shown-refused history caller named (query.Awards named) not refl in
          absurd (let wrong : is_some (query_refusal history caller (query.Awards named)) ≡ false =
          rw passed refl in cc)
    ]
published-of history caller auction other whose passed = absurd whose

-- the announcement of a reading
announced-of : (history : List Entry) (caller auction : List ℕ) (asked : Query) (read : Reading)
    → ReadsPublished asked auction
    → IsReading history caller asked read
    → (a : Announcement) × (announcement_of (announcements history) auction ≡ Some a)
announced-of history caller auction (query.Results named) (reading.Results results) whose is =
    (is.0, subst (λ (n : List ℕ). announcement_of (announcements history) n ≡ Some is.0) whose is.1)
announced-of history caller auction (query.Results named) other whose is = absurd is
announced-of history caller auction (query.Awards named) (reading.Awards lines) whose is =
    (is.0, subst (λ (n : List ℕ). announcement_of (announcements history) n ≡ Some is.0) whose is.1)
announced-of history caller auction (query.Awards named) other whose is = absurd is
announced-of history caller auction (query.Terms named) read whose is = absurd whose
announced-of history caller auction (query.Bids named) read whose is = absurd whose
announced-of history caller auction query.Holdings read whose is = absurd whose
announced-of history caller auction query.Funds read whose is = absurd whose
announced-of history caller auction (query.Redemption cusip) read whose is = absurd whose

-- a reading of it, where the query isn't refused
pub by-the-rule : (last more history : List Entry) (caller auction : List ℕ) (asked : Query) (read : Reading)
    → IsLegal last
    → last ≡ history ++ more
    → ReadsPublished asked auction
    → query_refusal history caller asked ≡ None
    → IsReading history caller asked read
    → IsByTheRule last history caller asked auction read
by-the-rule last more history caller auction asked read legal grown whose passed is =
    let whole : IsLegal (history ++ more) = subst IsLegal grown legal in
    let here : IsLegal history = IsLegal-front more history whole in
    let published = published-of history caller auction asked whose passed in
    let found = announced-of history caller auction asked read whose is in
    let closed = closed-announced history auction found.0 here published found.1 in
    record {
      published = published;
      rule = is;
      a = found.0;
      announced = found.1;
      in_time = in-time history auction found.0 here found.1;
      final = subst (λ (h : List Entry). (bidding_in h found.0).live ≡ (bidding_in history found.0).live) (sym grown)
          (AreSame-more more history found.0 whole closed).live;
    }

-- an answer that the history decides is what it tells
decided : (operator : List ℕ) (history : List Entry) (c : Called) (o : Outcome) (said : Answer)
    → IsAnswerBy operator history c o said
    → IsDecided said
    → Tells history (caller_on operator history c.key) c.ask c.moment said
decided operator history c (outcome.Added e) said is may = is
decided operator history c (outcome.Stood e) said is may = is
decided operator history c outcome.Told said is may = is
decided operator history c (outcome.Doubted e) said is may = absurd (subst IsDecided is may)
decided operator history c outcome.Lacked said is may = absurd (subst IsDecided is may)

-- what a query is told as a reading
query-read : (history : List Entry) (caller : List ℕ) (asked : Query) (moment : Option Moment) (read : Reading)
    → Tells history (Some caller) (ask.Query asked) moment (answer.Reading read)
    → (query_refusal history caller asked ≡ None) × IsReading history caller asked read
query-read history caller asked None read told = told
query-read history caller asked (Some moment) read told = absurd told

-- Published awards and price are the circular's rule on the bids accepted before closing.
TellsByTheRule-here : (fixed : List ℕ) (first last : Standing) (more : List Entry) (calls : List Made)
    → OneHistory (of_calls fixed) first last more calls
    → All (TellsByTheRule fixed last.history) calls
TellsByTheRule-here fixed first last more calls one = λ k d within caller asked auction read known asks whose is.
    let m = get_or calls k d in
    let here = one.answered k d within in
    let told = decided (operator_in fixed) m.history m.called m.called.outcome (answer.Reading read) is tt in
    let by_caller : Tells m.history (Some caller) (ask.Query asked) m.called.moment (answer.Reading read) =
    subst₂ (λ (who : Option (List ℕ)) (what : Ask). Tells m.history who what m.called.moment (answer.Reading read))
    known asks told in
    let both = query-read m.history caller asked m.called.moment read by_caller in
    by-the-rule last.history here.begins.0 m.history caller auction asked read one.legal here.begins.1 whose both.0
    both.1

-- ---- replies are sealed

-- a query on what isn't published is told by the caller's own part
query-own : (history : List Entry) (caller auction : List ℕ) (asked : Query) (said : Answer)
    → IsLegal history
    → asks_on auction asked ≡ true
    → is_published history auction ≡ false
    → TellsQuery history (Some caller) asked said
    → TellsQuery (own_part caller history) (Some caller) asked said
query-own history caller auction asked (answer.Verdict (verdict.Refused why)) legal asks not_yet is =
    sym (query_refusal-own caller history legal asked) ∙ is
query-own history caller auction asked (answer.Reading read) legal asks not_yet is = (
  sym (query_refusal-own caller history legal asked) ∙ is.0,
  IsReading-own history caller auction asked read legal asks not_yet is.0 is.1,
)
query-own history caller auction asked (answer.Verdict (verdict.Accepted n m)) legal asks not_yet is = absurd is
query-own history caller auction asked (answer.Verdict (verdict.Repeat n m)) legal asks not_yet is = absurd is
query-own history caller auction asked answer.DiskFault legal asks not_yet is = absurd is
query-own history caller auction asked answer.OutOfMemory legal asks not_yet is = absurd is

-- so is all that is sealed
tells-own : (history : List Entry) (caller : List ℕ) (asked : Ask) (moment other : Option Moment) (said : Answer)
    → IsLegal history
    → AsksSealed history asked
    → RunAlike history moment (own_part caller history) other
    → Tells history (Some caller) asked moment said
    → Tells (own_part caller history) (Some caller) asked other said
tells-own history caller (ask.Message number message) (Some moment) (Some other) said legal still alike is =
    is ∙ ap answer.Verdict (verdict-own history caller moment other number message legal still alike)
tells-own history caller (ask.Query asked) None None said legal sealed alike is =
    query-own history caller sealed.0 asked said legal sealed.1 sealed.2 is
tells-own history caller ask.BadJson None None said legal sealed alike is = is
tells-own history caller (ask.BadShape which) None None said legal sealed alike is = is
tells-own history caller (ask.Message number message) None other said legal sealed alike is = absurd is
tells-own history caller (ask.Message number message) (Some moment) None said legal sealed alike is = absurd alike
tells-own history caller (ask.Query asked) (Some moment) other said legal sealed alike is = absurd is
tells-own history caller (ask.Query asked) None (Some other) said legal sealed alike is = absurd alike
tells-own history caller ask.BadJson (Some moment) other said legal sealed alike is = absurd is
tells-own history caller ask.BadJson None (Some other) said legal sealed alike is = absurd alike
tells-own history caller (ask.BadShape which) (Some moment) other said legal sealed alike is = absurd is
tells-own history caller (ask.BadShape which) None (Some other) said legal sealed alike is = absurd alike

-- Until publication replies depend only on the submitter's own messages, the operator's and the moments.
AreSealed-here : (fixed : List ℕ) (first last : Standing) (more : List Entry) (calls : List Made)
    → OneHistory (of_calls fixed) first last more calls
    → All (IsSealed fixed) calls
AreSealed-here fixed first last more calls one = λ k d within caller said other known sealed is may alike.
    let m = get_or calls k d in
    let told = decided (operator_in fixed) m.history m.called m.called.outcome said is may in
    tells-own m.history caller m.called.ask m.called.moment other said (one.answered k d within).answered.legal sealed
    alike (subst (λ (who : Option (List ℕ)). Tells m.history who m.called.ask m.called.moment said) known told)

-- ---- holdings add up

-- they do in each legal history
pub AddsUp-legal : (history : List Entry) → IsLegal history → AddsUp history
AddsUp-legal history legal = λ cusip bill. held-sum history cusip legal bill

-- the parts of the headline, of one run
pub Headline-here : (fixed : List ℕ) (disk : DiskState) (first last : Standing) (more : List Entry) (calls : List Made)
    → OneHistory (of_calls fixed) first last more calls
    → Stays last disk
    → Headline (of_calls fixed) disk first last more calls
Headline-here fixed disk first last more calls one stays = record {
  one_history = one;
  keeps = KeepsAcknowledged-here fixed first last more disk calls one stays;
  by_the_rule = TellsByTheRule-here fixed first last more calls one;
  in_time = bids-in-time last.history one.legal;
  sealed = AreSealed-here fixed first last more calls one;
  holdings = AddsUp-legal last.history one.legal;
  holdings_on = λ k d within history on.
      subst AddsUp (sym on) (AddsUp-legal (get_or calls k d).history (one.answered k d within).answered.legal);
}
