-- The accounts tell what has moved, and each accepted message is done on them.
use Rattle.std.proofs.Common.{◌≡◌, ℕ, ◌+◌, ◌<◌, ◌≤◌, Bool, true, false, Some, None, inl, inr, List, [], ◌∷◌, length, refl, sym, ap, subst, arith, append-nil}
use Rattle.std.specs.Prelude.{◌↔◌, IsErr, IsOk, OnOk, Result, Ok, Err}
use Rattle.std.specs.List.{position, position_or_len}
use Rattle.std.proofs.lemmas.Bool.{cases_Bool}
use Rattle.tb_terms.specs.declared.announcement.Announcement.{Announcement}
use Rattle.tb_terms.specs.declared.terms.Terms.{Terms}
use Rattle.tb_holdings.specs.Book.{Book}
use Rattle.tb_tables.specs.Auctions.{announced_in}
use Rattle.tb_ledger.specs.Accounting.{TellsNext}
use Rattle.tb_shelf.proofs.FindLemmas.{position-place}
use Rattle.tb_tables.proofs.FindLemmas.{position-none}
use Rattle.tb_movements.specs.Movements.{Movement}
use Rattle.tb_movements.specs.Told.{IsTold}

-- a book that stays tells that nothing moves
pub tells_nothing : (book : Book) → TellsNext None book book
tells_nothing book movements told = subst (λ (ms : List Movement). IsTold ms book) (sym (append-nil movements)) told

-- the place of an announcement is that of its terms
pub placed_at : (test : Announcement → Bool) (auctions : List Terms)
    → position_or_len test (announced_in auctions)
    ≡ position_or_len (λ (terms : Terms). test terms.announcement) auctions
placed_at test [] = refl
placed_at test (terms ∷ auctions) =
    elim (cases_Bool (test terms.announcement)) [
      | inl is ↦ rw is refl
      | inr isnt ↦ rw isnt (ap (λ n. 1 + n) (placed_at test auctions))
    ]

-- a transfer of what is free is done
pub not_refused : {T E : Type 0} (result : Result T E) (free par : ℕ) (Done : Type 0)
    → IsErr result ↔ (free < par)
    → par ≤ free
    → OnOk result Done
    → Done
not_refused (Ok x) free par Done refused enough done = done
not_refused (Err e) free par Done refused enough done = absurd (omega (arith, refused.0 refl, enough))

-- and so is what may be done
pub may_do : {T E : Type 0} (result : Result T E) (May Done : Type 0)
    → IsOk result ↔ May
    → May
    → OnOk result Done
    → Done
may_do (Ok x) May Done when may done = done
may_do (Err e) May Done when may done = absurd (let wrong : false ≡ true = when.1 may in cc)

-- an element that is found stands at the first place that passes
pub place_found : {X : Type 0} (p : X → Bool) (xs : List X) (i : ℕ) → position p xs ≡ Some i → i ≡ position_or_len p xs
place_found p xs i found = sym (position-place p xs i found).1

-- and where none is found that place is behind all
pub place_missing : {X : Type 0} (p : X → Bool) (xs : List X) → position p xs ≡ None → length xs ≡ position_or_len p xs
place_missing p xs none = sym (position-none p xs none)
