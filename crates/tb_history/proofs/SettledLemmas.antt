-- What holds of settlements and redemptions in every legal history.
use Rattle.std.proofs.Common.{◌≡◌, ◌≢◌, ℕ, ◌<◌, ◌&&◌, ◌||◌, Bool, true, false, not, Option, Some, None, is_some, inl}
use Rattle.std.proofs.Common.{inr, List, [], ◌∷◌, ◌++◌, length, get_or, refl, sym, ap, ◌∙◌, subst, append-nil}
use Rattle.std.specs.List.{AllPairs, AllByRecursion, list_any}
use Rattle.std.proofs.lemmas.Bool.{cases_Bool, both_ways, and_from, or_cases, or_left, false_from_ne_true, not-false}
use Rattle.std.proofs.lemmas.List.Folds.{list_any-append}
use Rattle.std.proofs.lemmas.List.Quantifiers.{all_pairs_push}
use Rattle.tb_units.specs.declared.day.Day.{Day}
use Rattle.tb_units.specs.declared.moment.Moment.{Moment}
use Rattle.tb_units.proofs.ListLemmas.{AllPairs-nil}
use Rattle.tb_units.proofs.PlaceLemmas.{find_none, find_passes}
use Rattle.tb_terms.specs.Faults.{fault_of, fault_rows}
use Rattle.tb_terms.specs.declared.announcement.Announcement.{Announcement}
use Rattle.tb_terms.specs.declared.cusip.Cusip.{Cusip}
use Rattle.tb_terms.specs.declared.refusal.Refusal.TheVariants as refusal
use Rattle.tb_message.specs.declared.message.Entry.{Entry}
use Rattle.tb_message.specs.declared.message.Message.{Message}
use Rattle.tb_message.specs.declared.message.Message.TheVariants as message
use Rattle.tb_history.specs.Entries.{is_same, announced_by, published_by, settled_by, redeemed_by}
use Rattle.tb_history.specs.Roster.{announcements, publications, settlements, redemptions, announcement_of, bill_of}
use Rattle.tb_history.specs.Roster.{is_of_bill, is_named, is_published, is_settled, is_redeemed, unsettled_of}
use Rattle.tb_history.specs.Tables.{rows_of, settle_rows, maturity_rows, full, redeem_rows}
use Rattle.tb_history.specs.Legal.{IsLegal, Follows}
use Rattle.tb_history.proofs.PartLemmas.{AllByRecursion-append, AllByRecursion-weaker, AllByRecursion-back}
use Rattle.tb_history.proofs.SameLemmas.{is_same-equal, is_same-refl, is_same-sym}
use Rattle.tb_history.proofs.GrowthLemmas.{announcements-snoc, publications-snoc, settlements-snoc, redemptions-snoc}
use Rattle.tb_history.proofs.AcceptedLemmas.{IsClear, accepted-passes}
use Rattle.tb_history.proofs.LegalLemmas.{by_entries}
use Rattle.tb_history.proofs.EachLemmas.{IsLegal-each, settlements-grow}
use Rattle.tb_history.proofs.ClosedLemmas.{IsClosed, published-closed, named-in, found-in}

-- no two announcements have one name
abbrev pub HaveNames : List Announcement → Type 0
HaveNames announced = AllPairs (λ (one other : Announcement). one.auction ≢ other.auction) announced

-- an accepted announcement is of a new name
new_name : (announced : List Announcement) (auction : List ℕ)
    → is_some (announcement_of announced auction) ≡ false
    → (k : ℕ) (d : Announcement)
    → k < length announced
    → (get_or announced k d).auction ≢ auction
new_name announced auction unknown k d within same =
    let test : Announcement → Bool = λ (announcement : Announcement). is_same announcement.auction auction in
    let fails : test (get_or announced k d) ≡ false =
    find_none test announced (none_of (announcement_of announced auction) unknown) k d within in
    both_ways (test (get_or announced k d)) fails
    (subst (λ (x : List ℕ). is_same (get_or announced k d).auction x ≡ true) same
    (is_same-refl (get_or announced k d).auction))
  where
    -- what is not there is none
    none_of : (found : Option Announcement) → is_some found ≡ false → found ≡ None
    none_of None lacks = refl
    none_of (Some announcement) lacks = absurd cc

-- so an accepted message announces no name twice
names-message : (history : List Entry) (submitter : List ℕ) (moment : Moment) (sent : Message)
    → AllByRecursion IsClear (rows_of history submitter moment sent)
    → HaveNames (announcements history)
    → HaveNames (announcements history ++ announced_by sent)
names-message history submitter moment (message.Announce a) clear names =
    all_pairs_push (λ (one other : Announcement). one.auction ≢ other.auction) (announcements history) a names
    (λ k d within. new_name (announcements history) a.auction (first_clear clear) k d within)
  where
    -- an announcement that passes is of a new name
    first_clear : AllByRecursion IsClear (rows_of history submitter moment (message.Announce a))
        → is_some (announcement_of (announcements history) a.auction) ≡ false
    first_clear all = all.0
names-message history submitter moment other clear names = rw (append-nil (announcements history)) names

-- and stays so with an accepted entry
names-push : (history : List Entry) (entry : Entry)
    → IsLegal history
    → HaveNames (announcements history)
    → Follows history entry
    → HaveNames (announcements (history ++ entry ∷ []))
names-push history entry legal names follows =
    let passed = accepted-passes history entry.submitter entry.number entry.moment entry.message follows.accepted in
    rw (announcements-snoc history entry) (names-message history entry.submitter entry.moment entry.message passed.rows
    names)

-- nothing is announced yet
names-nil : HaveNames (announcements [])
unfolding announcements
names-nil = AllPairs-nil (λ (one other : Announcement). one.auction ≢ other.auction)

-- of a legal history
pub IsLegal-names : (history : List Entry) → IsLegal history → HaveNames (announcements history)
IsLegal-names history legal =
    by_entries (λ history. HaveNames (announcements history)) names-nil names-push history legal

-- what is named stays so among more
pub is_named-append : (one other : List (List ℕ)) (name : List ℕ)
    → is_named one name ≡ true
    → is_named (one ++ other) name ≡ true
is_named-append one other name named =
    rw (list_any-append (λ n. is_same n name) one other) (or_left (is_named one name) (is_named other name) named)

-- what is published stays so
published-push : (history : List Entry) (entry : Entry) (name : List ℕ)
    → is_published history name ≡ true
    → is_published (history ++ entry ∷ []) name ≡ true
published-push history entry name published =
    rw (publications-snoc history entry) (is_named-append (publications history)
    (published_by entry.message) name published)

-- a settlement is of a published auction
settle_rows-published : (found : Option Announcement) (published settled : Bool) (moment : Moment)
    → AllByRecursion IsClear (settle_rows found published settled moment)
    → (published ≡ true) × (settled ≡ false)
settle_rows-published None published settled moment clear = let wrong : true ≡ false = clear.0 in cc
settle_rows-published (Some a) published settled moment clear = (not-false published clear.0, clear.1.1.0)

-- an accepted settlement is of a published auction that isn't settled
pub settled_by-published : (history : List Entry) (submitter : List ℕ) (moment : Moment) (sent : Message)
    → AllByRecursion IsClear (rows_of history submitter moment sent)
    → AllByRecursion (λ name. (is_published history name ≡ true) × (is_settled history name ≡ false)) (settled_by sent)
settled_by-published history submitter moment (message.Settle auction) clear = (
  settle_rows-published (announcement_of (announcements history) auction) (is_published history auction)
      (is_settled history auction)
      moment clear,
  tt,
)
settled_by-published history submitter moment other clear = tt

-- every settled auction is published
IsLegal-settled : (history : List Entry)
    → IsLegal history
    → AllByRecursion (λ name. is_published history name ≡ true) (settlements history)
IsLegal-settled =
    IsLegal-each (λ history name. is_published history name ≡ true) settlements
    (λ (entry : Entry). settled_by entry.message) settlements-grow
    (record {
      begins = λ history entry legal follows passed.
          AllByRecursion-weaker _ _ (λ name both. both.0) (settled_by entry.message)
          (settled_by-published history entry.submitter entry.moment entry.message passed.rows);
      stays = λ history entry name published. published-push history entry name published;
    })

-- so one that is settled is published, and so it is closed
pub settled-published : (history : List Entry) (name : List ℕ)
    → IsLegal history
    → is_settled history name ≡ true
    → is_published history name ≡ true
settled-published history name legal settled =
    named-in (λ n. is_published history n ≡ true) (settlements history) name (IsLegal-settled history legal) settled

-- so its closing has come
pub settled-closed : (history : List Entry) (name : List ℕ)
    → IsLegal history
    → is_settled history name ≡ true
    → IsClosed history name
settled-closed history name legal settled =
    published-closed history name legal (settled-published history name legal settled)

-- a redeemed bill has no auction that isn't settled
abbrev pub IsSettledOut : List Entry → Announcement → Type 0
IsSettledOut h a = is_redeemed (redemptions h) a.cusip ≡ true → is_settled h a.auction ≡ true

-- none of a bill's auctions is unsettled where none is found
unsettled_none : (announced : List Announcement) (settled : List (List ℕ)) (cusip : Cusip)
    → unsettled_of announced settled cusip ≡ None
    → AllByRecursion (λ (announcement : Announcement). is_of_bill cusip announcement ≡ true
    → is_named settled announcement.auction ≡ true) announced
unsettled_none [] settled cusip none = tt
unsettled_none (a ∷ announced) settled cusip none =
    let test : Announcement → Bool =
    λ (announcement : Announcement). is_of_bill cusip announcement && not (is_named settled announcement.auction) in
    elim (cases_Bool (test a)) [
      | inl found ↦ absurd (let wrong : Some a ≡ None = rw found at none in cc)
      | inr fails ↦
          let here : is_of_bill cusip a ≡ true → is_named settled a.auction ≡ true = λ of_bill.
          elim (cases_Bool (is_named settled a.auction)) [
            | inl is ↦ is
            | inr isnt ↦ absurd (both_ways (test a) fails
                (and_from (is_of_bill cusip a) (not (is_named settled a.auction)) of_bill (ap not isnt)))
          ] in
          (here, unsettled_none announced settled cusip (rw fails at none))
    ]

-- where a redemption is accepted
redeem_rows-settled : (found unsettled : Option Announcement) (redeemed : Bool) (entered : List Day) (moment : Moment)
    → AllByRecursion IsClear (redeem_rows found redeemed unsettled entered moment)
    → (unsettled ≡ None) × (redeemed ≡ false)
redeem_rows-settled None unsettled redeemed entered moment clear = let wrong : true ≡ false = clear.0 in cc
redeem_rows-settled (Some a) None redeemed entered moment clear = (refl, clear.0)
redeem_rows-settled (Some a) (Some b) redeemed entered moment clear = let wrong : true ≡ false = clear.1.0 in cc

-- by the table of redemptions
pub redeem-clear : (history : List Entry) (submitter : List ℕ) (moment : Moment) (cusip : Cusip)
    → AllByRecursion IsClear (rows_of history submitter moment (message.Redeem cusip))
    → (unsettled_of (announcements history) (settlements history) cusip ≡ None)
    × (is_redeemed (redemptions history) cusip ≡ false)
redeem-clear history submitter moment cusip clear =
    redeem_rows-settled (bill_of (announcements history) cusip)
    (unsettled_of (announcements history) (settlements history) cusip)
    (is_redeemed (redemptions history) cusip) _ moment clear

-- a test that adds nothing
or_false_here : (b : Bool) → (b || false) ≡ b
or_false_here true = refl
or_false_here false = refl

-- so an accepted redemption is of a bill whose auctions are settled
redeemed_by-settled : (history : List Entry) (submitter : List ℕ) (moment : Moment) (sent : Message)
    → AllByRecursion IsClear (rows_of history submitter moment sent)
    → AllByRecursion (λ (announcement : Announcement). is_redeemed (redeemed_by sent) announcement.cusip ≡ true
    → is_settled history announcement.auction
    ≡ true) (announcements history)
redeemed_by-settled history submitter moment (message.Redeem cusip) clear =
    AllByRecursion-weaker _ _ (λ a settled redeemed. settled
    (is_same-sym cusip.bytes a.cusip.bytes (sym (or_false_here (is_same cusip.bytes a.cusip.bytes)) ∙ redeemed)))
    (announcements history) (unsettled_none (announcements history) (settlements history) cusip
    (redeem-clear history submitter moment cusip clear).0)
redeemed_by-settled history submitter moment other clear = never (announcements history)
  where
    -- where no bill is redeemed, nothing has to be settled
    never : (announced : List Announcement)
        → AllByRecursion (λ (announcement : Announcement). false ≡ true
        → is_settled history announcement.auction ≡ true) announced
    never [] = tt
    never (a ∷ announced) = ((λ wrong. absurd cc), never announced)

-- a new announcement is of no redeemed bill
announce-clear : (history : List Entry) (submitter : List ℕ) (moment : Moment) (announcement : Announcement)
    → AllByRecursion IsClear (rows_of history submitter moment (message.Announce announcement))
    → is_redeemed (redemptions history) announcement.cusip ≡ false
announce-clear history submitter moment announcement clear =
    let rows = (refusal.AuctionExists, is_some (announcement_of (announcements history) announcement.auction))
    ∷ fault_rows (fault_of announcement) in
    let maturity = maturity_rows (bill_of (announcements history) announcement.cusip) announcement.maturity in
    let rest = (refusal.AlreadyRedeemed, is_redeemed (redemptions history) announcement.cusip) ∷ full 65536
    (length (announcements history))
    ∷ [] in
    (AllByRecursion-back IsClear (rows ++ maturity) rest clear).0

-- so what an accepted message announces is of no redeemed bill
announced_by-live : (history : List Entry) (entry : Entry) (sent : Message)
    → AllByRecursion IsClear (rows_of history entry.submitter entry.moment sent)
    → AllByRecursion (λ (announcement : Announcement).
    is_redeemed (redemptions history ++ redeemed_by sent) announcement.cusip ≡ true
    → is_settled (history ++ entry ∷ []) announcement.auction ≡ true) (announced_by sent)
announced_by-live history entry (message.Announce a) clear =
    let live = announce-clear history entry.submitter entry.moment a clear in
    let same : redemptions history ++ [] ≡ redemptions history = append-nil (redemptions history) in
    ((λ redeemed. absurd (both_ways (is_redeemed (redemptions history) a.cusip) live (rw same at redeemed))), tt)
announced_by-live history entry other clear = tt

-- what is settled stays so
settled_stays : (history : List Entry) (entry : Entry) (name : List ℕ)
    → is_settled history name ≡ true
    → is_settled (history ++ entry ∷ []) name ≡ true
settled_stays history entry name settled =
    rw (settlements-snoc history entry) (is_named-append (settlements history) (settled_by entry.message) name settled)

-- and stays so with an accepted entry
settled_out-push : (history : List Entry) (entry : Entry)
    → IsLegal history
    → AllByRecursion (IsSettledOut history) (announcements history)
    → Follows history entry
    → AllByRecursion (IsSettledOut (history ++ entry ∷ [])) (announcements (history ++ entry ∷ []))
settled_out-push history entry legal so_far follows =
    let passed = accepted-passes history entry.submitter entry.number entry.moment entry.message follows.accepted in
    let newly = redeemed_by-settled history entry.submitter entry.moment entry.message passed.rows in
    let Q : List Cusip → Announcement → Type 0 =
    λ redeemed a. is_redeemed redeemed a.cusip ≡ true → is_settled (history ++ entry ∷ []) a.auction ≡ true in
    subst (λ (redeemed : List Cusip). AllByRecursion (Q redeemed) (announcements (history ++ entry ∷ [])))
    (sym (redemptions-snoc history entry))
    (rw (announcements-snoc history entry)
    (AllByRecursion-append _ (announcements history) (announced_by entry.message)
    (both (announcements history) so_far newly)
    (announced_by-live history entry entry.message passed.rows)))
  where
    -- what holds of the bills redeemed before and of those redeemed now holds of all
    both : (announced : List Announcement)
        → AllByRecursion (IsSettledOut history) announced
        → AllByRecursion (λ (announcement : Announcement). is_redeemed (redeemed_by entry.message) announcement.cusip
        ≡ true
        → is_settled history announcement.auction ≡ true) announced
        → AllByRecursion (λ (announcement : Announcement).
        is_redeemed (redemptions history ++ redeemed_by entry.message) announcement.cusip ≡ true
        → is_settled (history ++ entry ∷ []) announcement.auction ≡ true) announced
    both [] old new = tt
    both (a ∷ announced) old new = (
      (λ redeemed.
          let test : Cusip → Bool = λ (c : Cusip). is_same c.bytes a.cusip.bytes in
          elim (or_cases (list_any test (redemptions history)) (list_any test (redeemed_by entry.message))
          (sym (list_any-append test (redemptions history) (redeemed_by entry.message)) ∙ redeemed)) [
            | inl before ↦ settled_stays history entry a.auction (old.0 before)
            | inr now ↦ settled_stays history entry a.auction (new.0 now)
          ]),
      both announced old.1 new.1,
    )

-- nothing is announced yet
settled_out-nil : AllByRecursion (IsSettledOut []) (announcements [])
unfolding announcements
settled_out-nil = tt

-- of a legal history
pub IsLegal-settled_out : (history : List Entry)
    → IsLegal history
    → AllByRecursion (IsSettledOut history) (announcements history)
IsLegal-settled_out history legal =
    by_entries (λ history. AllByRecursion (IsSettledOut history) (announcements history)) settled_out-nil
    settled_out-push history legal

-- the bill of an auction that isn't settled isn't redeemed
pub unsettled-live : (history : List Entry) (auction : List ℕ) (terms : Announcement)
    → IsLegal history
    → announcement_of (announcements history) auction ≡ Some terms
    → is_settled history auction ≡ false
    → is_redeemed (redemptions history) terms.cusip ≡ false
unsettled-live history auction terms legal found unsettled =
    let test : Announcement → Bool = λ (announcement : Announcement). is_same announcement.auction auction in
    let out = found-in (IsSettledOut history) test (announcements history) terms
    (IsLegal-settled_out history legal) found in
    let name : terms.auction ≡ auction =
    is_same-equal terms.auction auction (find_passes test (announcements history) terms found) in
    false_from_ne_true _ (λ redeemed. both_ways (is_settled history auction) unsettled
    (subst (λ (announcement : List ℕ). is_settled history announcement ≡ true) name (out redeemed)))
