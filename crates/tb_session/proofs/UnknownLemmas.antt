-- Whoever is the caller of a key is never told that it is unknown.
use Rattle.std.proofs.Common.{◌≡◌, ℕ, Bool, true, false, not, nat_le, ◌||◌, Option, Some, None, is_some, List, [], ◌∷◌, ◌++◌, map, refl, sym, ◌∙◌, ap, subst, inl, inr}
use Rattle.std.specs.List.{find}
use Rattle.std.specs.Option.{option_map}
use Rattle.std.proofs.lemmas.Bool.{cases_Bool}
use Rattle.tb_units.specs.declared.moment.Moment.{Moment}
use Rattle.tb_units.specs.declared.rate.Rate.{Rate}
use Rattle.tb_units.specs.declared.day.Day.{Day}
use Rattle.tb_terms.specs.declared.announcement.Announcement.{Announcement}
use Rattle.tb_terms.specs.declared.checking.TermsFault.{TermsFault}
use Rattle.tb_terms.specs.declared.checking.TermsFault.TheVariants.{BadCusip, BadDates, BadAmounts, BadClosing}
use Rattle.tb_terms.specs.declared.refusal.Refusal.{Refusal}
use Rattle.tb_terms.specs.declared.refusal.Refusal.TheVariants as refusal
use Rattle.tb_terms.specs.Faults.{fault_of, fault_rows}
use Rattle.tb_terms.specs.Rows.{Row, first_of, refusal_in}
use Rattle.tb_message.specs.declared.key.Key.{Key}
use Rattle.tb_message.specs.declared.key.Key.TheVariants as key
use Rattle.tb_message.specs.declared.message.Entry.{Entry}
use Rattle.tb_message.specs.declared.message.Message.{Message}
use Rattle.tb_message.specs.declared.message.Message.TheVariants as message
use Rattle.tb_message.specs.declared.query.Query.{Query}
use Rattle.tb_message.specs.declared.query.Query.TheVariants as query
use Rattle.tb_message.specs.declared.verdict.Verdict.{Verdict}
use Rattle.tb_message.specs.declared.verdict.Verdict.TheVariants as verdict
use Rattle.tb_rules.specs.BidRule.{Standing}
use Rattle.tb_history.specs.declared.accounts.Mark.{Mark}
use Rattle.tb_history.specs.declared.accounts.Offer.{Offer}
use Rattle.tb_history.specs.declared.bids.Bid.{Bid}
use Rattle.tb_history.specs.declared.roster.Registration.{Registration}
use Rattle.tb_history.specs.Answer.{query_refusal, may_ask, auction_rows, asked_rows}
use Rattle.tb_history.specs.Entries.{is_same, operator}
use Rattle.tb_history.specs.Holdings.{mark_of, free_of}
use Rattle.tb_history.specs.Offers.{offers, offer_of, is_closed, open_offers}
use Rattle.tb_history.specs.LiveBids.{bids, cancels, reports, bid_of, is_cancelled, standing_of}
use Rattle.tb_history.specs.Roster.{registrations, holidays, announcements, settlements, redemptions, add_ons, add_on_of}
use Rattle.tb_history.specs.Roster.{announcement_of, bill_of, is_caller, is_enrolled, is_published, is_redeemed, is_registered, is_settled, unsettled_of, kept, sent_by}
use Rattle.tb_history.specs.Same.{same_message}
use Rattle.tb_history.specs.Tables.{add_on_rows, bid_rows, cancel_rows, left_in, mark_rows, maturity_rows, par_rows, position_rows, publish_rows, redeem_rows, rows_of, settle_rows, transfer_rows}
use Rattle.tb_history.specs.Tables.{buy_rows, matured_rows, retract_rows, sell_rows}
use Rattle.tb_history.specs.Verdict.{refused, is_permitted, number_rows, verdict_on}
use Rattle.tb_history.proofs.SameLemmas.{is_same-refl}
use Rattle.tb_session.specs.Calls.{caller_on}
use Rattle.tb_session.proofs.CallerLemmas.{row-passed}

-- ---- no row of a table says that the key is unknown

-- whether a refusal says that the key is unknown
abbrev is_unknown : Refusal → Bool
is_unknown refusal.UnknownKey = true
is_unknown other = false

-- whether a row of a table does
abbrev has_unknown : List Row → Bool
has_unknown [] = false
has_unknown (row ∷ rows) = is_unknown row.0 || has_unknown rows

-- neither of two holds where their "or" doesn't
or-false : (a b : Bool) → a || b ≡ false → (a ≡ false) × (b ≡ false)
or-false true b is = absurd (let bad : ⊥ = cc in bad)
or-false false b is = (refl, is)

-- two lists of rows, of which neither does
both_known : (rows more : List Row) → has_unknown rows ≡ false → has_unknown more ≡ false
    → has_unknown (rows ++ more) ≡ false
both_known [] more none also = also
both_known (row ∷ rows) more none also =
    let parts = or-false (is_unknown row.0) (has_unknown rows) none in
    rw (parts.0, both_known rows more parts.1 also) refl

-- the rows on the terms of an auction don't
faults_known : (fault : Option TermsFault) → has_unknown (fault_rows fault) ≡ false
faults_known None = refl
faults_known (Some BadCusip) = refl
faults_known (Some BadDates) = refl
faults_known (Some BadAmounts) = refl
faults_known (Some BadClosing) = refl

-- nor does the row on the maturity of a bill that is sold again
maturity_known : (first : Option Announcement) (day : Day) → has_unknown (maturity_rows first day) ≡ false
maturity_known None day = refl
maturity_known (Some first) day = refl

-- nor do the rows of a bid
bid_known : (a : Option Announcement) (enrolled : Bool) (standing : Standing) (moment : Moment) (rate : Option Rate)
    (amount : ℕ)
    → has_unknown (bid_rows a enrolled standing moment rate amount) ≡ false
bid_known None enrolled standing moment rate amount = refl
bid_known (Some a) enrolled standing moment rate amount = refl

-- of a cancel
cancel_known : (a : Option Announcement) (bid : Option Bid) (cancelled : Bool) (moment : Moment)
    → has_unknown (cancel_rows a bid cancelled moment) ≡ false
cancel_known None bid cancelled moment = refl
cancel_known (Some a) None cancelled moment = refl
cancel_known (Some a) (Some bid) cancelled moment = refl

-- of a report of a position
position_known : (a : Option Announcement) (enrolled : Bool) (moment : Moment)
    → has_unknown (position_rows a enrolled moment) ≡ false
position_known None enrolled moment = refl
position_known (Some a) enrolled moment = refl

-- of a publication
publish_known : (a : Option Announcement) (published : Bool) (moment : Moment)
    → has_unknown (publish_rows a published moment) ≡ false
publish_known None published moment = refl
publish_known (Some a) published moment = refl

-- of a settlement
settle_known : (a : Option Announcement) (published settled : Bool) (moment : Moment)
    → has_unknown (settle_rows a published settled moment) ≡ false
settle_known None published settled moment = refl
settle_known (Some a) published settled moment = refl

-- of a transfer
transfer_known : (a : Option Announcement) (known self redeemed : Bool) (free : ℕ) (moment : Moment) (amount : ℕ)
    → has_unknown (transfer_rows a known self redeemed free moment amount) ≡ false
transfer_known None known self redeemed free moment amount = refl
transfer_known (Some a) known self redeemed free moment amount = refl

-- of a release
mark_known : (mark : Option Mark) (left : ℕ) (sender : List ℕ) (amount : ℕ)
    → has_unknown (mark_rows mark left sender amount) ≡ false
mark_known None left sender amount = refl
mark_known (Some mark) left sender amount = refl

-- of a redemption
redeem_known : (a : Option Announcement) (redeemed : Bool) (unsettled : Option Announcement) (entered : List Day)
    (moment : Moment)
    → has_unknown (redeem_rows a redeemed unsettled entered moment) ≡ false
redeem_known None redeemed unsettled entered moment = refl
redeem_known (Some a) redeemed None entered moment = refl
redeem_known (Some a) redeemed (Some first) entered moment = refl

-- of an add-on
add_on_known : (a : Option Announcement) (known standing : Bool) (moment : Moment) (amount : ℕ)
    → has_unknown (add_on_rows a known standing moment amount) ≡ false
add_on_known None known standing moment amount = refl
add_on_known (Some a) known standing moment amount = refl

-- of an offer
sell_known : (a : Option Announcement) (known self redeemed : Bool) (moment : Moment) (amount open_now : ℕ)
    → has_unknown (sell_rows a known self redeemed moment amount open_now) ≡ false
sell_known None known self redeemed moment amount open_now = refl
sell_known (Some a) known self redeemed moment amount open_now = refl

-- of the maturity of a bill that is sold, and of what comes behind it
matured_known : (a : Option Announcement) (moment : Moment) (rest : List Row)
    → has_unknown rest ≡ false
    → has_unknown (matured_rows a moment ++ rest) ≡ false
matured_known None moment rest known = known
matured_known (Some a) moment rest known = known

-- of a purchase
buy_known : (history : List Entry) (offer : Option Offer) (sender : List ℕ) (moment : Moment)
    → has_unknown (buy_rows history offer sender moment) ≡ false
buy_known history None sender moment = refl
buy_known history (Some o) sender moment =
    matured_known (bill_of (announcements history) o.cusip) moment _ refl

-- of a retraction
retract_known : (offer : Option Offer) (closed : Bool) → has_unknown (retract_rows offer closed) ≡ false
retract_known None closed = refl
retract_known (Some o) closed = refl

-- so no row of a message does
rows-known : (history : List Entry) (sender : List ℕ) (moment : Moment) (sent : Message)
    → has_unknown (rows_of history sender moment sent) ≡ false
rows-known history sender moment (message.Register submitter word) = refl
rows-known history sender moment (message.Enrol bidder submitter) = refl
rows-known history sender moment (message.Holiday day) = refl
rows-known history sender moment (message.Announce terms) =
    let faults = fault_rows (fault_of terms) in
    let maturity = maturity_rows (bill_of (announcements history) terms.cusip) terms.maturity in
    both_known (faults ++ maturity) _
    (both_known faults maturity (faults_known (fault_of terms))
    (maturity_known (bill_of (announcements history) terms.cusip) terms.maturity))
    refl
rows-known history sender moment (message.Bid auction bidder rate amount) =
    bid_known (announcement_of (announcements history) auction) (is_enrolled history bidder sender)
    (standing_of (bids history) (cancels history) (reports history) auction bidder) moment rate amount.value
rows-known history sender moment (message.Cancel auction bid) =
    cancel_known (announcement_of (announcements history) auction) (bid_of (bids history) sender auction bid)
    (is_cancelled (cancels history) sender auction bid) moment
rows-known history sender moment (message.Position auction bidder position) =
    position_known (announcement_of (announcements history) auction) (is_enrolled history bidder sender) moment
rows-known history sender moment (message.Publish auction) =
    publish_known (announcement_of (announcements history) auction) (is_published history auction) moment
rows-known history sender moment (message.Settle auction) =
    settle_known (announcement_of (announcements history) auction) (is_published history auction)
    (is_settled history auction) moment
rows-known history sender moment (message.Transfer cusip to amount) =
    transfer_known (bill_of (announcements history) cusip)
    (is_registered (registrations history) to) (is_same to sender)
    (is_redeemed (redemptions history) cusip) (free_of history sender cusip) moment amount.value
rows-known history sender moment (message.Pledge cusip to amount) =
    both_known (par_rows history sender moment cusip to amount.value) _
    (transfer_known (bill_of (announcements history) cusip)
    (is_registered (registrations history) to) (is_same to sender)
    (is_redeemed (redemptions history) cusip) (free_of history sender cusip) moment amount.value)
    refl
rows-known history sender moment (message.Release holder pledge amount) =
    mark_known (mark_of history holder pledge) (left_in history (mark_of history holder pledge)) sender amount.value
rows-known history sender moment (message.Redeem cusip) =
    redeem_known (bill_of (announcements history) cusip) (is_redeemed (redemptions history) cusip)
    (unsettled_of (announcements history) (settlements history) cusip) (holidays history) moment
rows-known history sender moment (message.AddOn auction holder amount) =
    add_on_known (announcement_of (announcements history) auction) (is_registered (registrations history) holder)
    (is_some (add_on_of (add_ons history) auction)) moment amount.value
rows-known history sender moment (message.Deposit participant cents) = refl
rows-known history sender moment (message.Withdraw participant cents) = refl
rows-known history sender moment (message.Sell cusip to amount price) =
    sell_known (bill_of (announcements history) cusip) (is_registered (registrations history) to) (is_same to sender)
    (is_redeemed (redemptions history) cusip) moment amount.value (open_offers history sender)
rows-known history sender moment (message.Buy seller offer) =
    buy_known history (offer_of (offers history) seller offer) sender moment
rows-known history sender moment (message.Retract offer) =
    retract_known (offer_of (offers history) sender offer) (is_closed history sender offer)

-- ---- and so neither does a verdict nor a query's refusal

-- a refusal that doesn't say it is another one
other-refusal : (why : Refusal) → is_unknown why ≡ false → why ≡ refusal.UnknownKey → ⊥
other-refusal why known is =
    let yes : is_unknown why ≡ true = ap is_unknown is in
    let bad : true ≡ false = sym yes ∙ known in cc

-- and a verdict of such a refusal is another one than that the key is unknown
other-verdict : (why : Refusal) → is_unknown why ≡ false → verdict.Refused why ≡ verdict.Refused refusal.UnknownKey → ⊥
other-verdict why known is = other-refusal why known cc

-- where the first row that holds says that the key is unknown, no row held and the last verdict says it
rows-passed : (rows : List Row) (last : Verdict) → has_unknown rows ≡ false
    → first_of (map refused rows) last ≡ verdict.Refused refusal.UnknownKey
    → last ≡ verdict.Refused refusal.UnknownKey
rows-passed [] last known is = is
rows-passed (row ∷ rows) last known is =
    let parts = or-false (is_unknown row.0) (has_unknown rows) known in
    rows-passed rows last parts.1
    (row-passed row.1 (verdict.Refused row.0) (first_of (map refused rows) last) (verdict.Refused refusal.UnknownKey) is
    (other-verdict row.0 parts.0))

-- what is told of a number that was used
number-passed : (kept_one : Option Entry) (sent : Message) (rest : List (Verdict × Bool)) (last : Verdict)
    → first_of (number_rows kept_one sent ++ rest) last ≡ verdict.Refused refusal.UnknownKey
    → first_of rest last ≡ verdict.Refused refusal.UnknownKey
number-passed None sent rest last said = said
number-passed (Some e) sent rest last said =
    elim (cases_Bool (same_message e.message sent)) [
      | inl same ↦ let told : verdict.Repeat e.number e.moment ≡ verdict.Refused refusal.UnknownKey = rw same at said in
          absurd (let bad : ⊥ = cc in bad)
      | inr differs ↦
          let told : verdict.Refused refusal.NumberReused ≡ verdict.Refused refusal.UnknownKey = rw differs at said in
          absurd (other-verdict refusal.NumberReused refl told)
    ]

-- what is accepted isn't refused so
not-accepted : (number : ℕ) (moment : Moment) → verdict.Accepted number moment ≡ verdict.Refused refusal.UnknownKey → ⊥
not-accepted number moment is = cc

-- a caller isn't told that the key is unknown by the verdict on its message
pub verdict-known : (history : List Entry) (sender : List ℕ) (number : ℕ) (moment : Moment) (sent : Message)
    → is_caller (registrations history) sender ≡ true
    → verdict_on history sender number moment sent ≡ verdict.Refused refusal.UnknownKey
    → ⊥
verdict-known history sender number moment sent caller is =
    let last : Verdict = verdict.Accepted number moment in
    let own : List (Verdict × Bool) = map refused (rows_of history sender moment sent) in
    let quota : Verdict × Bool = (verdict.Refused refusal.MessageQuota, nat_le 1048576 (sent_by history sender)) in
    let known : first_of ((verdict.Refused refusal.NotPermitted, not (is_permitted sender sent))
    ∷ number_rows (kept history sender number) sent ++ quota ∷ own) last ≡ verdict.Refused refusal.UnknownKey =
    rw caller at is in
    let permitted = row-passed (not (is_permitted sender sent)) (verdict.Refused refusal.NotPermitted) _
    (verdict.Refused refusal.UnknownKey) known (other-verdict refusal.NotPermitted refl) in
    let unused = number-passed (kept history sender number) sent (quota ∷ own) last permitted in
    not-accepted number moment
    (rows-passed (rows_of history sender moment sent) last (rows-known history sender moment sent)
    (row-passed quota.1 quota.0 (first_of own last) (verdict.Refused refusal.UnknownKey) unused
    (other-verdict refusal.MessageQuota refl)))

-- no row refuses so
refusal-known : (rows : List Row) → has_unknown rows ≡ false → refusal_in rows ≡ Some refusal.UnknownKey → ⊥
refusal-known [] known is = cc
refusal-known (row ∷ rows) known is =
    let parts = or-false (is_unknown row.0) (has_unknown rows) known in
    elim (cases_Bool row.1) [
      | inl holds ↦ let told : Some row.0 ≡ Some refusal.UnknownKey = rw holds at is in
          other-refusal row.0 parts.0 cc
      | inr fails ↦ refusal-known rows parts.1 (rw fails at is)
    ]

-- no row on an auction that is asked for does
auction_known : (a : Option Announcement) (shows published : Bool)
    → has_unknown (auction_rows a shows published) ≡ false
auction_known None shows published = refl
auction_known (Some a) shows published = refl

-- so no row of a query does
asked-known : (history : List Entry) (asked : Query) → has_unknown (asked_rows history asked) ≡ false
asked-known history (query.Terms auction) =
    auction_known (announcement_of (announcements history) auction) false (is_published history auction)
asked-known history (query.Results auction) =
    auction_known (announcement_of (announcements history) auction) true (is_published history auction)
asked-known history (query.Awards auction) =
    auction_known (announcement_of (announcements history) auction) true (is_published history auction)
asked-known history (query.Bids auction) =
    auction_known (announcement_of (announcements history) auction) false (is_published history auction)
asked-known history query.Holdings = refl
asked-known history query.Funds = refl
asked-known history (query.Redemption cusip) = refl

-- nor by the refusal of its query
pub query-known : (history : List Entry) (caller : List ℕ) (asked : Query)
    → is_caller (registrations history) caller ≡ true
    → query_refusal history caller asked ≡ Some refusal.UnknownKey
    → ⊥
query-known history caller asked known is =
    refusal-known ((refusal.NotPermitted, not (may_ask caller asked)) ∷ asked_rows history asked)
    (asked-known history asked) (rw known at is)

-- ---- the caller of a key is one

-- "or" holds where the second holds
or-later : (a b : Bool) → b ≡ true → a || b ≡ true
or-later true b is = refl
or-later false b is = is

-- whoever is found is registered
registered-found : (test : Registration → Bool) (registered : List Registration) (r : Registration)
    → find test registered ≡ Some r
    → is_registered registered r.submitter ≡ true
registered-found test [] r is = absurd (let bad : ⊥ = cc in bad)
registered-found test (first ∷ registered) r is =
    elim (cases_Bool (test first)) [
      | inl passes ↦ let found : Some first ≡ Some r = rw passes at is in
          let same : first ≡ r = cc in
          subst (λ (x : Registration). is_registered (first ∷ registered) x.submitter ≡ true) same
          (rw (is_same-refl first.submitter) refl)
      | inr fails ↦ or-later (is_same first.submitter r.submitter) (is_registered registered r.submitter)
          (registered-found test registered r (rw fails at is))
    ]

-- the caller of a key may send messages
pub caller-known : (name : List ℕ) (history : List Entry) (k : Key) (caller : List ℕ)
    → caller_on name history k ≡ Some caller
    → is_caller (registrations history) caller ≡ true
caller-known name history (key.Submitter word) caller is =
    go (find (λ (r : Registration). is_same r.key word) (registrations history)) refl is
  where
    go : (first : Option Registration) → find (λ (r : Registration). is_same r.key word) (registrations history) ≡ first
        → option_map (λ (r : Registration). r.submitter) first ≡ Some caller
        → is_caller (registrations history) caller ≡ true
    go None first same = absurd (let bad : ⊥ = cc in bad)
    go (Some r) first same =
        let submitter : r.submitter ≡ caller = cc in
        subst (λ (x : List ℕ). is_caller (registrations history) x ≡ true) submitter
        (or-later (is_same r.submitter operator) (is_registered (registrations history) r.submitter)
        (registered-found (λ (r : Registration). is_same r.key word) (registrations history) r first))
caller-known name history (key.Operator word) caller is =
    elim (cases_Bool (is_same word name)) [
      | inl named ↦ let found : Some operator ≡ Some caller = rw named at is in
          let same : operator ≡ caller = cc in
          subst (λ (x : List ℕ). is_caller (registrations history) x ≡ true) same (rw (is_same-refl operator) refl)
      | inr other ↦ let none : None ≡ Some caller = rw other at is in absurd (let bad : ⊥ = cc in bad)
    ]
