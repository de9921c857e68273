-- Empty books in a list, one of which is given more places.
use Rattle.std.proofs.Common.{◌≡◌, ℕ, ◌<◌, ◌≤◌, List, length, get_or, set, ◌∙◌, arith}
use Rattle.std.proofs.lemmas.List.Elements.{All-get_or, All-set}
use Rattle.tb_book.specs.Books.{Bids}
use Rattle.tb_shelf.specs.Shelves.{AreReady, IsReady}

-- the book at a place is empty, and has its places
pub ready-at : (few : ℕ) (ready : List Bids) (place : ℕ) (d : Bids)
    → place < length ready → AreReady few ready → IsReady few (get_or ready place d)
ready-at few ready place d within all = All-get_or (IsReady few) ready place d within all

-- a book that keeps its lines and its places in the place of one of a list
pub AreReady-set : (few : ℕ) (ready : List Bids) (place : ℕ) (d new : Bids)
    → place < length ready
    → new.lines ≡ (get_or ready place d).lines
    → (get_or ready place d).spare ≤ new.spare
    → AreReady few ready
    → AreReady few (set ready place new)
AreReady-set few ready place d new within lines room all =
    let here : IsReady few (get_or ready place d) = ready-at few ready place d within all in
    All-set (IsReady few) ready place new (lines ∙ here.0, omega (arith, here.1, room)) all
