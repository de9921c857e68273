-- The host's tables stay tied, and its room is what it was, or is longer, or less by one.
use Rattle.std.proofs.Common.{◌≡◌, ℕ, ◌+◌, ◌-◌, ◌^◌, ◌<◌, ◌≤◌, ◌++◌, true, refl, List, [], ◌∷◌, length, length-append, sym, ap, ◌∙◌, subst, arith}
use Rattle.tb_message.specs.declared.message.Entry.{Entry}
use Rattle.tb_message.specs.declared.message.Message.{Message}
use Rattle.tb_message.specs.declared.message.Message.TheVariants as message
use Rattle.tb_history.specs.Entries.{bid_by, enrolled_by}
use Rattle.tb_history.specs.Legal.{Follows, Longer}
use Rattle.tb_ledger.specs.declared.scratch.Scratch.{Scratch}
use Rattle.tb_core.specs.declared.tables.Tables.{Tables}
use Rattle.tb_index.specs.Listed.{Listed}
use Rattle.tb_ledger.specs.Settling.{HasScratch}
use Rattle.tb_ledger.specs.Accounting.{TellsNext}
use Rattle.tb_cashbook.specs.Cashbook.{Means, TellsNext as TellsMoney}
use Rattle.tb_core.specs.Crediting.{cash_in, movement_in}
use Rattle.tb_core.specs.House.{AreTied, AreSame, HasEntered, HasRoom, IsHouse, room_of}
use Rattle.tb_core.proofs.TiedLemmas.{AreTied-same, AreTied-push}
use Rattle.std.specs.List.{filter}
use Rattle.std.proofs.lemmas.Bool.{and_parts}
use Rattle.tb_units.specs.Multiples.{most_par}
use Rattle.tb_history.specs.declared.roster.Enrolment.{Enrolment}
use Rattle.tb_history.specs.declared.bids.Bid.{Bid}
use Rattle.tb_history.specs.Roster.{enrolments}
use Rattle.tb_history.specs.LiveBids.{par_of}
use Rattle.tb_history.proofs.GrowthLemmas.{bids-snoc}
use Rattle.tb_shelving.specs.Rooms.{Fits, HasRoomAhead, KeepsRoom, TakesRoom, behind_all, has_place}
use Rattle.tb_tables.specs.Kinds.{announces}
use Rattle.tb_shelving.specs.Shelving.{TakesMessage}
use Rattle.tb_core.proofs.EnterLemmas.{one-bidder}
use Rattle.tb_shelving.proofs.BookLemmas.{Follows-next, HasNextRoom, takes-message}
use Rattle.tb_shelving.proofs.KeptLemmas.{IsKeptShelf-both, KeepsRoom-kept}
use Rattle.tb_shelving.proofs.NumberLemmas.{IsLegal-bidders}
use Rattle.tb_history.proofs.ParLemmas.{IsLegal-par}
use Rattle.tb_shelving.proofs.RoomLemmas.{TakesRoom-by, length-behind}

-- where the rows stay and no room is lost, it is a host as before
pub house_kept : (old new : Listed Entry) (before after : Tables)
    → new.list ≡ old.list
    → old.spare ≤ new.spare
    → AreSame before after
    → ((room : ℕ) → HasRoom room before → HasRoom room after)
    → HasScratch (length after.bids.list) (length after.bidders.list) after.scratch
    → (room : ℕ) → IsHouse old before room → IsHouse new after room
house_kept old new before after list spare same keeps scratch room house = record {
  tied = subst (λ (h : List Entry). AreTied h after) (sym list) (AreTied-same old.list before after house.tied same);
  roomy = keeps room house.roomy;
  spare = omega (arith, house.spare, spare);
  scratch = scratch;
}

-- and where so many adds are sure it has room for as many
pub house_more : (old new : Listed Entry) (before after : Tables) (more : ℕ)
    → new.list ≡ old.list
    → more ≤ new.spare
    → AreSame before after
    → HasRoom more after
    → HasScratch (length after.bids.list) (length after.bidders.list) after.scratch
    → (room : ℕ) → IsHouse old before room → IsHouse new after more
house_more old new before after more list sure same roomy scratch room house = record {
  tied = subst (λ (h : List Entry). AreTied h after) (sym list) (AreTied-same old.list before after house.tied same);
  roomy = roomy;
  spare = sure;
  scratch = scratch;
}

-- the scratch lists that were enough are enough where the rows stay
pub HasScratch-same : (before after : Tables)
    → AreSame before after
    → after.scratch ≡ before.scratch
    → HasScratch (length before.bids.list) (length before.bidders.list) before.scratch
    → HasScratch (length after.bids.list) (length after.bidders.list) after.scratch
HasScratch-same before after same is has = rw (is, same.bids, same.bidders) has

-- room for bids and bidders is room for fewer
pub HasScratch-less : (bids bidders fewer less : ℕ) (scratch : Scratch)
    → fewer ≤ bids
    → less ≤ bidders
    → HasScratch bids bidders scratch
    → HasScratch fewer less scratch
HasScratch-less bids bidders fewer less scratch few small has = record {
  lines = λ some. omega (arith, few, has.lines some);
  bidders_too = λ some. omega (arith, small, has.bidders_too some);
  positions = λ some. omega (arith, small, has.positions some);
  awards = λ some. omega (arith, small, has.awards some);
}

-- a message bids once at most
one-bid : (s : List ℕ) (n : ℕ) (m : Message) → length (bid_by s n m) ≤ 1
one-bid s n (message.Bid auction bidder rate amount) = omega arith
one-bid s n other = omega arith

-- so a settlement finds its room for one message fewer
scratch_push : (before after : Tables) (s : List ℕ) (n : ℕ) (m : Message)
    → HasEntered s n m before after
    → HasScratch (length before.bids.list) (length before.bidders.list) before.scratch
    → HasScratch (length after.bids.list) (length after.bidders.list) after.scratch
scratch_push before after s n m entered has =
    let bids : length after.bids.list ≡ length before.bids.list + length (bid_by s n m) =
    ap length entered.bids ∙ length-append before.bids.list (bid_by s n m) in
    let bidders : length after.bidders.list ≡ length before.bidders.list + length (enrolled_by m) =
    ap length entered.bidders ∙ length-append before.bidders.list (enrolled_by m) in
    HasScratch-less (length before.bids.list + 1) (length before.bidders.list + 1) (length after.bids.list)
    (length after.bidders.list) after.scratch (omega (arith, bids, one-bid s n m))
    (omega (arith, bidders, one-bidder m))
    (entered.scratch.has (length before.bids.list) (length before.bidders.list) has)

-- with an accepted entry it has room for one fewer
pub house_push : (old new : Listed Entry) (before after : Tables) (e : Entry)
    → Follows old.list e
    → TellsNext (movement_in before e.submitter e.number e.message) before.accounts after.accounts
    → TellsMoney (Means (cash_in before e.submitter e.number e.message)) before.funds after.funds
    → new.list ≡ old.list ++ e ∷ []
    → old.spare ≤ new.spare + 1
    → HasEntered e.submitter e.number e.message before after
    → after.last ≡ e.moment
    → ((room : ℕ) → HasRoom (room + 1) before → HasRoom room after)
    → (room : ℕ) → IsHouse old before (room + 1) → IsHouse new after room
house_push old new before after e follows told paid list spare entered last keeps room house = record {
  tied = subst (λ (h : List Entry). AreTied h after) (sym list)
      (AreTied-push old.list before after e house.tied follows told paid entered last);
  roomy = keeps room house.roomy;
  spare = omega (arith, house.spare, spare);
  scratch = scratch_push before after e.submitter e.number e.message entered house.scratch;
}

-- some room is room for one more than one fewer
pub house_one_more : (entries : Listed Entry) (tables : Tables) (room : ℕ)
    → 1 ≤ room
    → IsHouse entries tables room
    → IsHouse entries tables (room - 1 + 1)
house_one_more entries tables room some house =
    let same : room ≡ room - 1 + 1 = omega (arith, some) in
    subst (λ (n : ℕ). IsHouse entries tables n) same house

-- rows that stay twice stay
pub AreSame-both : (one two three : Tables) → AreSame one two → AreSame two three → AreSame one three
AreSame-both one two three first second = record {
  last = second.last ∙ first.last;
  submitters = second.submitters ∙ first.submitters;
  bidders = second.bidders ∙ first.bidders;
  holidays = second.holidays ∙ first.holidays;
  auctions = second.auctions ∙ first.auctions;
  bids = second.bids ∙ first.bids;
  cancels = second.cancels ∙ first.cancels;
  reports = second.reports ∙ first.reports;
  published = second.published ∙ first.published;
  settled = second.settled ∙ first.settled;
  redeemed = second.redeemed ∙ first.redeemed;
  add_ons = second.add_ons ∙ first.add_ons;
  shelf = IsKeptShelf-both one.shelf two.shelf three.shelf first.shelf second.shelf;
  lasts = omega (arith, first.lasts, second.lasts);
  calendar = second.calendar ∙ first.calendar;
  accounts = λ movements told. second.accounts movements (first.accounts movements told);
  funds = record {
    balances = second.funds.balances ∙ first.funds.balances;
    offers = second.funds.offers ∙ first.funds.offers;
  };
}

-- where the rows stay and no room is lost, what fitted still fits
pub KeepsRoom-same : (old new : ℕ) (before after : Tables)
    → old ≤ new → AreSame before after → KeepsRoom (room_of old before) (room_of new after)
KeepsRoom-same old new before after more same =
    KeepsRoom-kept (room_of old before) (room_of new after) more same.shelf same.lasts

-- the tables can take an accepted message for which there is room
pub takes-entry : (h : List Entry) (tables : Tables) (room : ℕ) (e : Entry)
    → AreTied h tables
    → Follows h e
    → Fits (room_of room tables) (e.message ∷ [])
    → TakesMessage tables.bidders.list e.submitter e.number e.message tables.shelf
takes-entry h tables room e tied follows fits =
    subst (λ (es : List Enrolment). TakesMessage es e.submitter e.number e.message tables.shelf) (sym tied.bidders_are)
    (takes-message h e.submitter e.number e.moment e.message tables.shelf (Follows-next h e tied.legal follows)
    (subst (λ (bs : List Bid). par_of bs ≤ most_par) (bids-snoc h e)
    (IsLegal-par (h ++ e ∷ []) (Longer h e tied.legal follows)))
    tied.books_are (next-room e.message room tables fits))
  where
    -- room for a message alone is what the shelf needs for it
    next-room : (m : Message) (room : ℕ) (tables : Tables) → Fits (room_of room tables) (m ∷ [])
        → HasNextRoom m tables.shelf
    next-room m room tables fits =
        let place = and_parts (has_place tables.shelf.books 1 m) true fits.ahead.places in
        record {
          ready = λ is.
              let one : length (filter announces (m ∷ [])) ≡ 1 = rw is refl in
              omega (arith, fits.ahead.ready, one);
          place = place.0;
        }

-- there are few bidders
pub few-bidders : (h : List Entry) (tables : Tables) → AreTied h tables → length tables.bidders.list < 2 ^ 32
few-bidders h tables tied =
    let same : length tables.bidders.list ≡ length (enrolments h) = ap length tied.bidders_are in
    omega (arith, same, IsLegal-bidders h tied.legal)

-- what a message takes of the host's room
pub takes-room : (h : List Entry) (old new : ℕ) (before after : Tables) (s : List ℕ) (n : ℕ) (m : Message)
    → HasRoom old before
    → HasEntered s n m before after
    → new + 1 ≡ old
    → TakesRoom m (room_of old before) (room_of new after)
takes-room h old new before after s n m roomy entered less =
    TakesRoom-by before.bidders.list before.bids.list s n m (room_of old before) (room_of new after)
    (record {
      shelf = entered.shelf;
      rows = omega (arith, less);
      enough = roomy.rows.places;
      lasts = entered.scratch.lasts;
    })

-- with room for as many rows as there are messages, and for what they need ahead, they fit
pub fits_more : (room : ℕ) (tables : Tables) (ahead : List Entry) (messages : List (ℕ × Message))
    → length ahead + length messages ≤ room
    → HasRoomAhead tables.shelf tables.scratch.lasts (behind_all ahead messages)
    → Fits (room_of room tables) (behind_all ahead messages)
fits_more room tables ahead messages rows has =
    record { rows = omega (arith, rows, length-behind ahead messages); ahead = has }
