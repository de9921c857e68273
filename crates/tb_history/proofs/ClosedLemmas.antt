-- The closing of a published auction has come.
use Rattle.std.proofs.Common.{◌≡◌, ℕ, ◌-◌, ◌%◌, ◌^◌, ◌==◌, ◌<◌, ◌≤◌, ◌&&◌, Bool, true, false, not, nat_le}
use Rattle.std.proofs.Common.{nat_lt, Option, Some, None, is_some, length, if◌then◌else◌, inl, inr, List}
use Rattle.std.proofs.Common.{[], ◌∷◌, ◌++◌, refl, subst, arith, append_assoc, append-nil}
use Rattle.std.specs.List.{find, AllByRecursion}
use Rattle.std.proofs.lemmas.Bool.{cases_Bool, and_parts, leb-true, ltb-true, ltb-false, or_cases}
use Rattle.tb_units.specs.declared.moment.Moment.{Moment}
use Rattle.tb_units.specs.declared.rate.Rate.{Rate}
use Rattle.tb_units.specs.Moments.{moment_of}
use Rattle.tb_units.specs.Multiples.{is_multiple}
use Rattle.tb_terms.specs.Announcements.{has_dates, has_amounts, has_closings, is_closing, is_within, offering_unit}
use Rattle.tb_terms.specs.Announcements.{most_offering, last_maturity, most_days, first_closing, last_closing}
use Rattle.tb_terms.specs.Cusips.{is_cusip}
use Rattle.tb_terms.specs.Closings.{c_closing}
use Rattle.tb_terms.specs.Eastern.{closing_of}
use Rattle.tb_terms.specs.Faults.{fault_of, fault_rows}
use Rattle.tb_terms.specs.declared.checking.TermsFault.{TermsFault}
use Rattle.tb_terms.specs.declared.checking.TermsFault.TheVariants as fault
use Rattle.tb_terms.specs.declared.announcement.Announcement.{Announcement}
use Rattle.tb_rules.specs.BidRule.{closing_for}
use Rattle.tb_message.specs.declared.message.Entry.{Entry}
use Rattle.tb_message.specs.declared.message.Message.{Message}
use Rattle.tb_message.specs.declared.message.Message.TheVariants as message
use Rattle.tb_history.specs.Entries.{is_same, announced_by, published_by}
use Rattle.tb_history.specs.Roster.{announcements, publications, redemptions, announcement_of}
use Rattle.tb_history.specs.Roster.{bill_of, is_redeemed, is_published, is_named}
use Rattle.tb_history.specs.Tables.{rows_of, publish_rows, maturity_rows, full}
use Rattle.tb_terms.specs.declared.refusal.Refusal.TheVariants as refusal
use Rattle.tb_history.specs.Legal.{IsLegal, Follows, last_of}
use Rattle.tb_history.proofs.PartLemmas.{AllByRecursion-append, AllByRecursion-weaker, AllByRecursion-front}
use Rattle.tb_history.proofs.SameLemmas.{is_same-equal}
use Rattle.tb_history.proofs.GrowthLemmas.{announcements-snoc, publications-snoc, find-append}
use Rattle.tb_history.proofs.AcceptedLemmas.{IsClear, accepted-passes}
use Rattle.tb_history.proofs.LegalLemmas.{by_entries}
use Rattle.tb_history.proofs.EachLemmas.{IsLegal-each, announcements-grow}
use Rattle.tb_history.proofs.HistoryLemmas.{last_of-push}

-- the announcement is in order
abbrev pub IsInOrder : Announcement → Type 0
IsInOrder a = fault_of a ≡ None

-- where no fault is told there is none
no_fault : (found : Option TermsFault) → AllByRecursion IsClear (fault_rows found) → found ≡ None
no_fault None clear = refl
no_fault (Some fault) clear = cc

-- an accepted announcement is in order
announced_by-in_order : (history : List Entry) (submitter : List ℕ) (moment : Moment) (sent : Message)
    → AllByRecursion IsClear (rows_of history submitter moment sent)
    → AllByRecursion IsInOrder (announced_by sent)
announced_by-in_order history submitter moment (message.Announce a) clear =
    let rows = (refusal.AuctionExists, is_some (announcement_of (announcements history) a.auction))
    ∷ fault_rows (fault_of a) in
    let maturity = maturity_rows (bill_of (announcements history) a.cusip) a.maturity in
    let rest = (refusal.AlreadyRedeemed, is_redeemed (redemptions history) a.cusip) ∷ full 65536
    (length (announcements history))
    ∷ [] in
    let front =
    AllByRecursion-front IsClear rows maturity (AllByRecursion-front IsClear (rows ++ maturity) rest clear) in
    (no_fault (fault_of a) front.1, tt)
announced_by-in_order history submitter moment other clear = tt

-- every announcement of a legal history is in order
pub IsLegal-in_order : (history : List Entry) → IsLegal history → AllByRecursion IsInOrder (announcements history)
IsLegal-in_order =
    IsLegal-each (λ history. IsInOrder) announcements (λ (entry : Entry). announced_by entry.message) announcements-grow
    (record {
      begins = λ history entry legal follows passed.
          announced_by-in_order history entry.submitter entry.moment entry.message passed.rows;
      stays = λ history entry announcement is. is;
    })

-- what holds of all holds of what is found
pub found-in : {X : Type 0} (P : X → Type 0) (test : X → Bool) (xs : List X) (x : X)
    → AllByRecursion P xs
    → find test xs ≡ Some x
    → P x
found-in P test [] x all found = absurd cc
found-in P test (y ∷ ys) x all found =
    elim (cases_Bool (test y)) [
      | inl is ↦ let one : Some y ≡ Some x = rw is at found in let same : y ≡ x = cc in subst P same all.0
      | inr not ↦ found-in P test ys x all.1 (rw not at found)
    ]

-- an announcement in order closes noncompetitive bids first
faultless : (a b c d : Bool)
    → (if a then (if b then (if c then (if d then None else Some fault.BadClosing) else Some fault.BadAmounts)
    else Some fault.BadDates) else Some fault.BadCusip) ≡ None
    → d ≡ true
faultless true true true true none = refl
faultless true true true false none = absurd cc
faultless true true false d none = absurd cc
faultless true false c d none = absurd cc
faultless false b c d none = absurd cc

-- so its noncompetitive closing isn't the later one
closes_first : (announcement : Announcement) → IsInOrder announcement → announcement.nc_close ≤ announcement.c_close
closes_first announcement in_order =
    let closings = faultless (is_cusip announcement.cusip.bytes) (has_dates announcement) (has_amounts announcement)
    (has_closings announcement) in_order in
    leb-true announcement.nc_close announcement.c_close
    (and_parts (is_closing announcement.nc_close && is_closing announcement.c_close)
    (nat_le announcement.nc_close announcement.c_close) closings).1

-- a later minute of a day is no earlier moment
closings-order : (day early late : ℕ)
    → early ≤ late
    → (moment_of (closing_of day early)).seconds ≤ (moment_of (closing_of day late)).seconds
unfolding moment_of closing_of
closings-order day early late before = omega (arith, before)

-- no closing is after the competitive one
pub closing_for-le : (announcement : Announcement) (rate : Option Rate)
    → IsInOrder announcement
    → (closing_for announcement rate).seconds ≤ (c_closing announcement).seconds
closing_for-le announcement None in_order =
    closings-order announcement.auction_date.number announcement.nc_close announcement.c_close
    (closes_first announcement in_order)
closing_for-le announcement (Some rate) in_order = omega arith

-- the auction is announced, and its competitive closing has come
pub record IsClosed (history : List Entry) (auction : List ℕ) : Type 0 where
  pub a : Announcement
  pub announced : announcement_of (announcements history) auction ≡ Some a
  pub come : (c_closing a).seconds ≤ last_of history

-- an announcement stays
pub announced-push : (history : List Entry) (entry : Entry) (auction : List ℕ) (terms : Announcement)
    → announcement_of (announcements history) auction ≡ Some terms
    → announcement_of (announcements (history ++ entry ∷ [])) auction ≡ Some terms
announced-push history entry auction terms found =
    rw (announcements-snoc history entry) (find-append
    (λ (announcement : Announcement). is_same announcement.auction auction) (announcements history)
    (announced_by entry.message) terms found)

-- whatever comes later
pub announced-more : (more history : List Entry) (auction : List ℕ) (announcement : Announcement)
    → announcement_of (announcements history) auction ≡ Some announcement
    → announcement_of (announcements (history ++ more)) auction ≡ Some announcement
announced-more [] history auction announcement found = rw (append-nil history) found
announced-more (e ∷ more) history auction announcement found =
    subst (λ (x : List Entry). announcement_of (announcements x) auction ≡ Some announcement)
    (append_assoc history (e ∷ []) more)
    (announced-more more (history ++ e ∷ []) auction announcement (announced-push history e auction announcement found))

-- what is closed stays so
pub IsClosed-push : (history : List Entry) (entry : Entry) (auction : List ℕ)
    → Follows history entry
    → IsClosed history auction
    → IsClosed (history ++ entry ∷ []) auction
IsClosed-push history entry auction follows closed = record {
  a = closed.a;
  announced = announced-push history entry auction closed.a closed.announced;
  come = omega (arith, closed.come, follows.in_time, last_of-push 946702800 history entry);
}

-- an auction is published once it is closed
published_by-closed : (history : List Entry) (entry : Entry) (sent : Message)
    → AllByRecursion IsClear (rows_of history entry.submitter entry.moment sent)
    → AllByRecursion (IsClosed (history ++ entry ∷ [])) (published_by sent)
published_by-closed history entry (message.Publish auction) clear =
    (closed (announcement_of (announcements history) auction) refl clear, tt)
  where
    -- the publication that passed is of an announced auction whose closings have come
    closed : (found : Option Announcement)
        → announcement_of (announcements history) auction ≡ found
        → AllByRecursion IsClear (publish_rows found (is_published history auction) entry.moment)
        → IsClosed (history ++ entry ∷ []) auction
    closed None is clear = absurd (let wrong : true ≡ false = clear.0 in cc)
    closed (Some a) is clear = record {
      a = a;
      announced = announced-push history entry auction a is;
      come =
          omega (
            arith,
            ltb-false entry.moment.seconds (c_closing a).seconds clear.0,
            last_of-push 946702800 history entry,
          );
    }
published_by-closed history entry other clear = tt

-- and stays so with an accepted entry
AreClosed-push : (history : List Entry) (entry : Entry)
    → IsLegal history
    → AllByRecursion (IsClosed history) (publications history)
    → Follows history entry
    → AllByRecursion (IsClosed (history ++ entry ∷ [])) (publications (history ++ entry ∷ []))
AreClosed-push history entry legal closed follows =
    let passed = accepted-passes history entry.submitter entry.number entry.moment entry.message follows.accepted in
    rw (publications-snoc history entry)
    (AllByRecursion-append (IsClosed (history ++ entry ∷ [])) (publications history) (published_by entry.message)
    (AllByRecursion-weaker (IsClosed history) (IsClosed (history ++ entry ∷ []))
    (λ name. IsClosed-push history entry name follows)
    (publications history) closed)
    (published_by-closed history entry entry.message passed.rows))

-- nothing is published yet
AreClosed-nil : AllByRecursion (IsClosed []) (publications [])
unfolding publications
AreClosed-nil = tt

-- every published auction is closed
pub IsLegal-closed : (history : List Entry) → IsLegal history → AllByRecursion (IsClosed history) (publications history)
IsLegal-closed history legal =
    by_entries (λ history. AllByRecursion (IsClosed history) (publications history)) AreClosed-nil AreClosed-push
    history legal

-- what holds of all names holds of one that is named
pub named-in : (P : List ℕ → Type 0) (names : List (List ℕ)) (auction : List ℕ)
    → AllByRecursion P names
    → is_named names auction ≡ true
    → P auction
named-in P [] auction all named = absurd cc
named-in P (name ∷ names) auction all named =
    elim (or_cases (is_same name auction) (is_named names auction) named) [
      | inl is ↦ subst P (is_same-equal name auction is) all.0
      | inr later ↦ named-in P names auction all.1 later
    ]

-- so every published auction is closed
pub published-closed : (history : List Entry) (auction : List ℕ)
    → IsLegal history
    → is_published history auction ≡ true
    → IsClosed history auction
published-closed history auction legal published =
    named-in (IsClosed history) (publications history) auction (IsLegal-closed history legal) published

-- an announcement in order seeks at least 100 dollars
has_amounts-faultless : (a b c d : Bool)
    → (if a then (if b then (if c then (if d then None else Some fault.BadClosing) else Some fault.BadAmounts)
    else Some fault.BadDates) else Some fault.BadCusip) ≡ None
    → c ≡ true
has_amounts-faultless true true true d none = refl
has_amounts-faultless true true false d none = absurd cc
has_amounts-faultless true false c d none = absurd cc
has_amounts-faultless false b c d none = absurd cc

-- its floor is at least 100 dollars
pub amounts_of : (announcement : Announcement) → IsInOrder announcement → 100 ≤ announcement.competitive_floor.value
amounts_of announcement in_order =
    let amounts =
    has_amounts-faultless (is_cusip announcement.cusip.bytes) (has_dates announcement) (has_amounts announcement)
    (has_closings announcement) in_order in
    let floor = is_within announcement announcement.competitive_floor.value in
    let front =
    is_multiple offering_unit most_offering announcement.offering.value
    && is_within announcement announcement.minimum.value
    && is_within announcement announcement.nc_ceiling.value in
    let holds =
    and_parts front floor (and_parts (front && floor)
    (is_within announcement announcement.nlp_threshold.value) amounts).0 in
    let size = announcement.competitive_floor.value in
    let parts = and_parts ((size % 100 == 0) && nat_le 100 size) (nat_le size announcement.offering.value) holds.1 in
    leb-true 100 size (and_parts (size % 100 == 0) (nat_le 100 size) parts.0).1

-- its offering is at most 10^12 dollars
pub offering_of : (announcement : Announcement) → IsInOrder announcement → announcement.offering.value ≤ 10 ^ 12
offering_of announcement in_order =
    let amounts =
    has_amounts-faultless (is_cusip announcement.cusip.bytes) (has_dates announcement) (has_amounts announcement)
    (has_closings announcement) in_order in
    let offered = is_multiple offering_unit most_offering announcement.offering.value in
    let one = is_within announcement announcement.minimum.value in
    let two = is_within announcement announcement.nc_ceiling.value in
    let three = is_within announcement announcement.competitive_floor.value in
    let first = and_parts (offered && one && two && three)
    (is_within announcement announcement.nlp_threshold.value) amounts in
    let second = and_parts (offered && one && two) three first.0 in
    let third = and_parts (offered && one) two second.0 in
    let size = announcement.offering.value in
    leb-true size (10 ^ 12)
    (and_parts ((size % offering_unit == 0) && nat_le offering_unit size) (nat_le size most_offering)
    (and_parts offered one third.0).0).1

-- the dates of an announcement without a fault are in order
dates-faultless : (a b c d : Bool)
    → (if a then (if b then (if c then (if d then None else Some fault.BadClosing) else Some fault.BadAmounts)
    else Some fault.BadDates) else Some fault.BadCusip) ≡ None
    → b ≡ true
dates-faultless true true c d none = refl
dates-faultless true false c d none = absurd cc
dates-faultless false b c d none = absurd cc

-- an announcement in order matures after its issue, by the last day, and closes within a day
pub record IsDated (announcement : Announcement) : Type 0 where
  pub issued : announcement.issue.number < announcement.maturity.number
  pub early : announcement.maturity.number ≤ last_maturity
  pub noncompetitive : announcement.nc_close < 1440
  pub competitive : announcement.c_close < 1440

-- it does
pub dates_of : (announcement : Announcement) → IsInOrder announcement → IsDated announcement
dates_of announcement in_order =
    let dates =
    dates-faultless (is_cusip announcement.cusip.bytes) (has_dates announcement) (has_amounts announcement)
    (has_closings announcement) in_order in
    let closings = faultless (is_cusip announcement.cusip.bytes) (has_dates announcement) (has_amounts announcement)
    (has_closings announcement) in_order in
    let first = nat_le announcement.auction_date.number announcement.issue.number in
    let second = nat_lt announcement.issue.number announcement.maturity.number in
    let third = nat_le announcement.maturity.number last_maturity in
    let before = and_parts (first && second && third)
    (nat_le (announcement.maturity.number - announcement.issue.number) most_days) dates in
    let early = and_parts (first && second) third before.0 in
    let later = and_parts first second early.0 in
    let both = and_parts (is_closing announcement.nc_close && is_closing announcement.c_close)
    (nat_le announcement.nc_close announcement.c_close) closings in
    let each = and_parts (is_closing announcement.nc_close) (is_closing announcement.c_close) both.0 in
    let one =
    leb-true announcement.nc_close last_closing (and_parts (nat_le first_closing announcement.nc_close)
    (nat_le announcement.nc_close last_closing) each.0).1 in
    let two =
    leb-true announcement.c_close last_closing (and_parts (nat_le first_closing announcement.c_close)
    (nat_le announcement.c_close last_closing) each.1).1 in
    record {
      issued = ltb-true announcement.issue.number announcement.maturity.number later.1;
      early = leb-true announcement.maturity.number last_maturity early.1;
      noncompetitive = omega (arith, one);
      competitive = omega (arith, two);
    }
