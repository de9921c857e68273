-- Add-ons of a legal history.
use Rattle.std.proofs.Common.{◌≡◌, ℕ, ◌≤◌, ◌^◌, ◌==◌, Bool, true, false, Option, Some, None, List, refl, arith}
use Rattle.std.specs.Prelude.{if◌then◌else◌}
use Rattle.std.specs.List.{AllByRecursion}
use Rattle.std.proofs.lemmas.Bool.{leb-true, not-false}
use Rattle.tb_units.specs.declared.moment.Moment.{Moment}
use Rattle.tb_terms.specs.declared.announcement.Announcement.{Announcement}
use Rattle.tb_message.specs.declared.message.Entry.{Entry}
use Rattle.tb_message.specs.declared.message.Message.{Message}
use Rattle.tb_message.specs.declared.message.Message.TheVariants as message
use Rattle.tb_message.specs.Spelling.{FitsFields}
use Rattle.tb_history.specs.declared.accounts.AddOn.{AddOn}
use Rattle.tb_history.specs.Entries.{is_same, registered_by, added_by}
use Rattle.tb_history.specs.Roster.{registrations, announcements, add_ons, is_registered, announcement_of, add_on_of}
use Rattle.tb_history.specs.Awarded.{par_in_all}
use Rattle.tb_history.specs.Holdings.{bidding_in, awarded_add_on, par_added}
use Rattle.tb_history.specs.Tables.{add_on_rows}
use Rattle.tb_history.specs.Legal.{IsLegal}
use Rattle.tb_history.proofs.GrowthLemmas.{registrations-snoc, registered-append}
use Rattle.tb_history.proofs.AcceptedLemmas.{IsClear, Passes}
use Rattle.tb_history.proofs.ClosedLemmas.{found-in}
use Rattle.tb_history.proofs.EachLemmas.{IsLegal-each, add_ons-grow}

-- an add-on is of a registered holder, and in its range
pub record IsAddOn (history : List Entry) (x : AddOn) : Type 0 where
  pub holder : is_registered (registrations history) x.holder ≡ true
  pub amount : x.amount.value ≤ 10 ^ 12

-- an accepted message adds on for a registered holder
added-message : (history : List Entry) (submitter : List ℕ) (number : ℕ) (moment : Moment) (sent : Message)
    → FitsFields sent
    → Passes history submitter number moment sent
    → AllByRecursion (IsAddOn history) (added_by sent)
added-message history submitter number moment (message.AddOn auction holder amount) fits passed =
    let known = by_found (announcement_of (announcements history) auction) _ _ passed.rows in
    (record { holder = known; amount = leb-true amount.value (10 ^ 12) fits.1.1.0 }, tt)
  where
    -- of an announced auction
    by_found : (found : Option Announcement)
        → (standing : Bool) (n : ℕ)
        → AllByRecursion IsClear (add_on_rows found (is_registered (registrations history) holder) standing moment n)
        → is_registered (registrations history) holder ≡ true
    by_found None standing n clear = absurd (let wrong : true ≡ false = clear.0 in cc)
    by_found (Some a) standing n clear = not-false (is_registered (registrations history) holder) clear.0
added-message history submitter number moment other fits passed = tt

-- so are all of a legal history
pub IsLegal-added : (history : List Entry) → IsLegal history → AllByRecursion (IsAddOn history) (add_ons history)
IsLegal-added =
    IsLegal-each IsAddOn add_ons (λ (entry : Entry). added_by entry.message) add_ons-grow
    (record {
      begins = λ history entry legal follows passed. added-message history entry.submitter entry.number entry.moment
          entry.message follows.in_range.body passed;
      stays = λ history entry x is. record {
        holder = rw (registrations-snoc history entry)
            (registered-append (registrations history) (registered_by entry.message) x.holder is.holder);
        amount = is.amount;
      };
    })

-- and so is the one that is found
pub found-known : (history : List Entry) (auction : List ℕ) (x : AddOn)
    → IsLegal history
    → add_on_of (add_ons history) auction ≡ Some x
    → IsAddOn history x
found-known history auction x legal found =
    found-in (IsAddOn history) (λ (y : AddOn). is_same y.auction auction) (add_ons history) x
    (IsLegal-added history legal) found

-- and the one that is awarded
pub awarded-known : (history : List Entry) (a : Announcement) (x : AddOn)
    → IsLegal history
    → awarded_add_on history a ≡ Some x
    → IsAddOn history x
unfolding awarded_add_on
awarded-known history a x legal found =
    found-known history a.auction x legal
    (there (par_in_all (bidding_in history a) == 0) (add_on_of (add_ons history) a.auction) found)
  where
    -- nothing is awarded, or what is found
    there : (none : Bool) (add_on : Option AddOn) → (if none then None else add_on) ≡ Some x → add_on ≡ Some x
    there true add_on is = absurd cc
    there false add_on is = is

-- no add-on is above its range
pub added-most : (history : List Entry) (a : Announcement)
    → IsLegal history
    → par_added (λ name. true) (awarded_add_on history a) ≤ 10 ^ 12
added-most history a legal = by_found (awarded_add_on history a) refl
  where
    -- by the one that is awarded
    by_found : (found : Option AddOn) → awarded_add_on history a ≡ found → par_added (λ name. true) found ≤ 10 ^ 12
    by_found None is = omega arith
    by_found (Some x) is = (awarded-known history a x legal is).amount
