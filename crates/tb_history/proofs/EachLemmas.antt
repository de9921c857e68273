-- What holds of each thing that a legal history says, where it holds of what each accepted entry says and stays.
use Rattle.std.proofs.Common.{◌≡◌, List, [], ◌∷◌, ◌++◌, refl}
use Rattle.std.specs.List.{AllByRecursion}
use Rattle.tb_message.specs.declared.message.Entry.{Entry}
use Rattle.tb_history.specs.Entries.{added_by, announced_by, bid_by, deposited_by, enrolled_by, offered_by, pledged_by}
use Rattle.tb_history.specs.Entries.{purchased_by, retracted_by, settled_by, withdrawn_by}
use Rattle.tb_history.specs.Roster.{add_ons, announcements, enrolments, settlements}
use Rattle.tb_history.specs.LiveBids.{bids}
use Rattle.tb_history.specs.Holdings.{marks}
use Rattle.tb_history.specs.Offers.{offers, purchases, retractions}
use Rattle.tb_history.specs.Funds.{deposits, withdrawals}
use Rattle.tb_history.specs.Legal.{IsLegal, Follows}
use Rattle.tb_history.proofs.PartLemmas.{AllByRecursion-append, AllByRecursion-weaker}
use Rattle.tb_history.proofs.AcceptedLemmas.{Passes, accepted-passes}
use Rattle.tb_history.proofs.GrowthLemmas.{add_ons-snoc, announcements-snoc, bids-snoc, deposits-snoc, enrolments-snoc}
use Rattle.tb_history.proofs.GrowthLemmas.{marks-snoc, offers-snoc, purchases-snoc, retractions-snoc, settlements-snoc}
use Rattle.tb_history.proofs.GrowthLemmas.{withdrawals-snoc}
use Rattle.tb_history.proofs.LegalLemmas.{by_entries}

-- the list of what a history says grows by what each entry says
pub record Grows {X : Type 0} (all : List Entry → List X) (says : Entry → List X) : Type 0 where
  pub none : all [] ≡ []
  pub more : (history : List Entry) (entry : Entry) → all (history ++ entry ∷ []) ≡ all history ++ says entry

-- what the next entry says has it, and what has it keeps it
pub record Lasts {X : Type 0} (Holds : List Entry → X → Type 0) (says : Entry → List X) : Type 0 where
  pub begins : (history : List Entry) (entry : Entry)
      → IsLegal history
      → Follows history entry
      → Passes history entry.submitter entry.number entry.moment entry.message
      → AllByRecursion (Holds history) (says entry)
  pub stays : (history : List Entry) (entry : Entry) (x : X) → Holds history x → Holds (history ++ entry ∷ []) x

-- so each thing that a legal history says has it
pub IsLegal-each : {X : Type 0} (Holds : List Entry → X → Type 0) (all : List Entry → List X) (says : Entry → List X)
    → Grows all says
    → Lasts Holds says
    → (history : List Entry)
    → IsLegal history
    → AllByRecursion (Holds history) (all history)
IsLegal-each {X} Holds all says grows lasts =
    by_entries (λ history. AllByRecursion (Holds history) (all history)) (rw grows.none tt)
    (λ history entry legal so_far follows.
    let passed = accepted-passes history entry.submitter entry.number entry.moment entry.message follows.accepted in
    rw (grows.more history entry)
    (AllByRecursion-weaker (Holds history) (Holds (history ++ entry ∷ [])) (lasts.stays history entry)
    (all history ++ says entry)
    (AllByRecursion-append (Holds history) (all history) (says entry) so_far
    (lasts.begins history entry legal follows passed))))

-- bidders and their submitters
pub enrolments-grow : Grows enrolments (λ (entry : Entry). enrolled_by entry.message)
unfolding enrolments
enrolments-grow = record { none = refl; more = enrolments-snoc }

-- announcements
pub announcements-grow : Grows announcements (λ (entry : Entry). announced_by entry.message)
unfolding announcements
announcements-grow = record { none = refl; more = announcements-snoc }

-- bids
pub bids-grow : Grows bids (λ (entry : Entry). bid_by entry.submitter entry.number entry.message)
unfolding bids
bids-grow = record { none = refl; more = bids-snoc }

-- settlements
pub settlements-grow : Grows settlements (λ (entry : Entry). settled_by entry.message)
unfolding settlements
settlements-grow = record { none = refl; more = settlements-snoc }

-- pledges
pub marks-grow : Grows marks (λ (entry : Entry). pledged_by entry.submitter entry.number entry.message)
unfolding marks
marks-grow = record { none = refl; more = marks-snoc }

-- add-ons
pub add_ons-grow : Grows add_ons (λ (entry : Entry). added_by entry.message)
unfolding add_ons
add_ons-grow = record { none = refl; more = add_ons-snoc }

-- deposits
pub deposits-grow : Grows deposits (λ (entry : Entry). deposited_by entry.message)
unfolding deposits
deposits-grow = record { none = refl; more = deposits-snoc }

-- withdrawals
pub withdrawals-grow : Grows withdrawals (λ (entry : Entry). withdrawn_by entry.message)
unfolding withdrawals
withdrawals-grow = record { none = refl; more = withdrawals-snoc }

-- offers
pub offers-grow : Grows offers (λ (entry : Entry). offered_by entry.submitter entry.number entry.message)
unfolding offers
offers-grow = record { none = refl; more = offers-snoc }

-- purchases
pub purchases-grow : Grows purchases (λ (entry : Entry). purchased_by entry.submitter entry.message)
unfolding purchases
purchases-grow = record { none = refl; more = purchases-snoc }

-- retractions
pub retractions-grow : Grows retractions (λ (entry : Entry). retracted_by entry.submitter entry.message)
unfolding retractions
retractions-grow = record { none = refl; more = retractions-snoc }
