-- The headline, over all that a command is asked, from the history that the disk stood for to the one that it keeps; and
-- of `serve`, over the calls of all links.
use Rattle.std.specs.Prelude.{◌≡◌, ◌⊎◌, ℕ, ◌<◌, List, [], ◌∷◌, ◌++◌, sum_by, Option, Some, None, true, false, All, Any, Contains, IfSome, if◌then◌else◌}
use Rattle.std.specs.List.{AllPairs}
use Rattle.tb_units.specs.declared.amount.Dollars.{Dollars}
use Rattle.tb_units.specs.declared.moment.Moment.{Moment}
use Rattle.tb_units.specs.declared.rate.Rate.{Rate}
use Rattle.tb_disk.specs.Disks.{DiskState}
use Rattle.tb_disk.specs.Past.{contents_of, MayLeave}
use Rattle.tb_terms.specs.declared.announcement.Announcement.{Announcement}
use Rattle.tb_terms.specs.declared.cusip.Cusip.{Cusip}
use Rattle.tb_rules.specs.BidRule.{closing_for}
use Rattle.tb_message.specs.declared.message.Entry.{Entry}
use Rattle.tb_message.specs.declared.message.Message.TheVariants as message
use Rattle.tb_message.specs.declared.query.Query.{Query}
use Rattle.tb_message.specs.declared.query.Query.TheVariants as query
use Rattle.tb_history.specs.declared.reading.Reading.{Reading}
use Rattle.tb_history.specs.declared.roster.Registration.{Registration}
use Rattle.tb_history.specs.Answer.{asks_on}
use Rattle.tb_history.specs.Holdings.{bidding_in, held_of, issued}
use Rattle.tb_history.specs.Legal.{IsLegal, IsOther, running}
use Rattle.tb_history.specs.OwnPart.{own_part, depends_on_others}
use Rattle.tb_history.specs.Readings.{IsReading}
use Rattle.tb_history.specs.Roster.{registrations, announcements, redemptions, announcement_of, is_published, is_redeemed}
use Rattle.tb_desk.specs.Stands.{StandsForHistory}
use Rattle.tb_session.specs.declared.answer.Answer.{Answer}
use Rattle.tb_session.specs.declared.answer.Answer.TheVariants as answer
use Rattle.tb_session.specs.declared.called.Ask.{Ask}
use Rattle.tb_session.specs.declared.called.Ask.TheVariants as ask
use Rattle.tb_session.specs.declared.called.Outcome.TheVariants as outcome
use Rattle.tb_session.specs.Calls.{caller_on, Tells}
use Rattle.tb_session.specs.Codes.{Made, IsAnswered, IsAnswerOf, operator_in}
use Rattle.tb_commands.specs.Standings.{Standing}

-- ---- the headline

-- one history begins another
abbrev pub Begins : List Entry → List Entry → Type 0
Begins front whole = (more : List Entry) × (whole ≡ front ++ more)

-- a history that the file stands for is legal and has the entry, and no other of its submitter and number
pub record KeepsOnce (e : Entry) (file : List ℕ) : Type 0 where
  pub history : List Entry
  pub stands : StandsForHistory history file
  pub legal : IsLegal history
  pub has : Contains history e
  pub once : AllPairs IsOther history

-- the disk keeps the entry, once, and so does what any crash leaves of it
abbrev pub DiskKeeps : DiskState → Entry → Type 0
DiskKeeps disk e = IfSome disk.past
    (λ past. (file : List ℕ) → (file ≡ contents_of past) ⊎ MayLeave past file → KeepsOnce e file)

-- where the entry is a bid, its auction is announced in the history, and it came before the closing for its kind
abbrev pub CameInTime : List Entry → Entry → Type 0
CameInTime history e = (auction bidder : List ℕ) (rate : Option Rate) (amount : Dollars)
    → e.message ≡ message.Bid auction bidder rate amount
    → (a : Announcement) × (announcement_of (announcements history) auction ≡ Some a)
    × (e.moment.seconds < (closing_for a rate).seconds)

-- what all participants hold of a bill is what was issued of it, and nothing once it is redeemed
abbrev pub AddsUp : List Entry → Type 0
AddsUp history = (cusip : Cusip)
    → sum_by (λ (r : Registration). held_of history r.submitter cusip) (registrations history)
    ≡ (if is_redeemed (redemptions history) cusip then 0 else issued history cusip)

-- The words of the headline, of one thing that a command is asked: a call, a line of a script, a run of rows, a parcel.
pub record Wording (A : Type 0) : Type 1 where
  -- it was answered on this history
  pub on : A → List Entry → Type 0
  -- so it was, in a history that has the first and begins the last
  pub answered : List Entry → List Entry → A → Type 0
  -- it was acknowledged with the entry
  pub acknowledged : A → Entry → Type 0
  -- what it was told of a published auction is by the rule, on the bids that are live to this last history
  pub by_the_rule : List Entry → A → Type 0
  -- what is sealed it was told as the caller's own part of the history says
  pub sealed : A → Type 0
  -- by this last history, it may have added the entry; or left it in doubt
  pub added : List Entry → Entry → A → Type 0
  pub doubted : List Entry → Entry → A → Type 0

-- All is answered in one legal history, which has nothing past the first but these entries, each of something that was
-- asked; and so is what is in doubt.
pub record OneHistory {A : Type 0} (words : Wording A) (first last : Standing) (more : List Entry) (asked : List A)
    : Type 0
  where
    pub legal : IsLegal last.history
    pub answered : All (words.answered first.history last.history) asked
    pub own : All (λ e. Any (words.added last.history e) asked) more
    pub doubted : All (λ e. Any (words.doubted last.history e) asked) last.doubt

-- The headline of a command that adds entries, of one run from the first history to the last, which has these entries
-- more, and of all that it was asked: the replies belong to one legal history; the disk keeps every acknowledged message,
-- once; published awards and price are the circular's rule, and each bid came before its closing; until publication
-- replies depend only on the submitter's own messages, the operator's and the moments; and holdings sum to the unredeemed
-- issue.
pub record Headline {A : Type 0} (words : Wording A) (disk : DiskState) (first last : Standing) (more : List Entry)
    (asked : List A) : Type 0
  where
    pub one_history : OneHistory words first last more asked
    pub keeps : All (λ one. (e : Entry) → words.acknowledged one e → DiskKeeps disk e) asked
    pub by_the_rule : All (words.by_the_rule last.history) asked
    pub in_time : All (CameInTime last.history) last.history
    pub sealed : All words.sealed asked
    pub holdings : AddsUp last.history
    pub holdings_on : All (λ one. (history : List Entry) → words.on one history → AddsUp history) asked

-- ---- of a call: it is answered in one history

-- The call was answered on a beginning of the last history that has the first. Where it was accepted its entry stands
-- right behind that beginning.
pub record IsAnsweredIn (fixed : List ℕ) (first last : List Entry) (m : Made) : Type 0 where
  pub answered : IsAnswered fixed m.history m.called m.before m.after m.readings
  pub has_first : Begins first m.history
  pub begins : Begins m.history last
  pub accepted : (e : Entry) → m.called.outcome ≡ outcome.Added e → Begins (m.history ++ e ∷ []) last

-- the call may have added the entry: it was accepted with it, or met a fault of the disk
abbrev pub MayHaveAdded : Entry → Made → Type 0
MayHaveAdded e m = (m.called.outcome ≡ outcome.Added e) ⊎ (m.called.outcome ≡ outcome.Doubted e)

-- the call met a fault of the disk, and may have left the entry in doubt
abbrev pub MayHaveDoubted : Entry → Made → Type 0
MayHaveDoubted e m = m.called.outcome ≡ outcome.Doubted e

-- where both calls were accepted their entries aren't of one submitter under one number
abbrev pub AddOthers : Made → Made → Type 0
AddOthers m n = (e f : Entry)
    → m.called.outcome ≡ outcome.Added e
    → n.called.outcome ≡ outcome.Added f
    → IsOther e f

-- ---- of a call: it is acknowledged

-- the call was acknowledged with this entry: accepted, or told as what stands already
abbrev pub Acknowledges : Made → Entry → Type 0
Acknowledges m e = (m.called.outcome ≡ outcome.Added e) ⊎ (m.called.outcome ≡ outcome.Stood e)

-- ---- of a reading: it is by the circular's rule on the bids accepted before closing

-- the query reads what is published of the auction
abbrev pub ReadsPublished : Query → List ℕ → Type 0
ReadsPublished (query.Results named) auction = named ≡ auction
ReadsPublished (query.Awards named) auction = named ≡ auction
ReadsPublished other auction = ⊥

-- where the entry is a bid in the auction, it came before the closing for its kind
abbrev pub IsInTime : Announcement → Entry → Type 0
IsInTime a e = (named bidder : List ℕ) (rate : Option Rate) (amount : Dollars)
    → e.message ≡ message.Bid named bidder rate amount
    → named ≡ a.auction
    → e.moment.seconds < (closing_for a rate).seconds

-- What is read of the auction is published. It is that of the rule (31 CFR 356.20 to 356.22, and the choices marked
-- ours) on the live bids, all of them accepted before closing; and these are the live bids to the last.
pub record IsByTheRule (last history : List Entry) (caller : List ℕ) (asked : Query) (auction : List ℕ)
    (reading : Reading) : Type 0 where
  pub published : is_published history auction ≡ true
  pub rule : IsReading history caller asked reading
  pub a : Announcement
  pub announced : announcement_of (announcements history) auction ≡ Some a
  pub in_time : All (IsInTime a) history
  pub final : (bidding_in last a).live ≡ (bidding_in history a).live

-- so is a reading of results or awards that the call was answered
abbrev pub TellsByTheRule : List ℕ → List Entry → Made → Type 0
TellsByTheRule fixed last m = (caller : List ℕ) (asked : Query) (auction : List ℕ) (reading : Reading)
    → caller_on (operator_in fixed) m.history m.called.key ≡ Some caller
    → m.called.ask ≡ ask.Query asked
    → ReadsPublished asked auction
    → IsAnswerOf fixed m (answer.Reading reading)
    → IsByTheRule last m.history caller asked auction reading

-- ---- of a call: until publication its reply depends only on the submitter's own messages, the operator's and the moments

-- what is asked shows nothing of others: a message that doesn't depend on others, a query on an auction that isn't
-- published, and what is no request
abbrev pub AsksSealed : List Entry → Ask → Type 0
AsksSealed history (ask.Message number message) = depends_on_others message ≡ false
AsksSealed history (ask.Query query) =
    (auction : List ℕ) × (asks_on auction query ≡ true) × (is_published history auction ≡ false)
AsksSealed history ask.BadJson = Unit {0}
AsksSealed history (ask.BadShape which) = Unit {0}

-- where a moment was given, the running moments of the two agree
abbrev pub RunAlike : List Entry → Option Moment → List Entry → Option Moment → Type 0
RunAlike history (Some moment) own (Some other) = running history moment ≡ running own other
RunAlike history None own None = Unit {0}
RunAlike history moment own other = ⊥

-- an answer that the history decides: no fault of the disk, and no want of memory
abbrev pub IsDecided : Answer → Type 0
IsDecided answer.DiskFault = ⊥
IsDecided answer.OutOfMemory = ⊥
IsDecided other = Unit {0}

-- the answer to what is sealed is what the caller's own part of the history says, wherever the running moments agree
abbrev pub IsSealed : List ℕ → Made → Type 0
IsSealed fixed m = (caller : List ℕ) (said : Answer) (other : Option Moment)
    → caller_on (operator_in fixed) m.history m.called.key ≡ Some caller
    → AsksSealed m.history m.called.ask
    → IsAnswerOf fixed m said
    → IsDecided said
    → RunAlike m.history m.called.moment (own_part caller m.history) other
    → Tells (own_part caller m.history) (Some caller) m.called.ask other said

-- ---- the headline of `serve`

-- the words of the headline, of calls that were made with this fixed part
abbrev pub of_calls : List ℕ → Wording Made
of_calls fixed = record {
  on = λ m history. history ≡ m.history;
  answered = IsAnsweredIn fixed;
  acknowledged = Acknowledges;
  by_the_rule = TellsByTheRule fixed;
  sealed = IsSealed fixed;
  added = λ last. MayHaveAdded;
  doubted = λ last. MayHaveDoubted;
}
