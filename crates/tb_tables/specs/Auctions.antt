-- Announced auctions, as they are kept with their terms.
use Rattle.std.specs.Prelude.{◌≡◌, List, Option, Some, None, map}
use Rattle.std.specs.List.{AllByRecursion}
use Rattle.tb_terms.specs.declared.announcement.Announcement.{Announcement}
use Rattle.tb_terms.specs.declared.terms.Terms.{Terms}
use Rattle.tb_terms.specs.Faults.{fault_of}
use Rattle.tb_message.specs.declared.message.Message.{Message}
use Rattle.tb_history.specs.Entries.{announced_by}

-- the announcements of the terms
abbrev pub announced_in : List Terms → List Announcement
announced_in auctions = map (λ (terms : Terms). terms.announcement) auctions

-- the announcement of the terms, if there are any
abbrev pub announcement_in : Option Terms → Option Announcement
announcement_in None = None
announcement_in (Some terms) = Some terms.announcement

-- an announcement that the message makes is in order
abbrev pub IsInOrder : Message → Type 0
IsInOrder message = AllByRecursion (λ (a : Announcement). fault_of a ≡ None) (announced_by message)
