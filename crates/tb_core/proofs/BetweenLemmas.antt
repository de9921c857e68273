-- Between a holder's accounts no announcement has a line.
use Rattle.std.proofs.Common.{◌≡◌, ℕ, ◌+◌, ◌<◌, ◌≤◌, Bool, true, false, Option, Some, inl, inr, List, ◌++◌, length, get_or, take, drop, refl, sym, ap, ◌∙◌, subst, arith, append-nil}
use Rattle.std.specs.List.{All, AllWithin, filter, position_or_len}
use Rattle.std.proofs.lemmas.Bool.{cases_Bool, cases_lt, false≢true}
use Rattle.std.proofs.lemmas.List.{get_or-drop, get_or-take, get_or_default, length-drop, length-map, length-take-le, take-append-drop, take-map, take-take}
use Rattle.std.proofs.lemmas.List.Elements.{filter-append}
use Rattle.std.proofs.lemmas.List.Folds.{find_at}
use Rattle.std.proofs.lemmas.List.Sums.{fails_before_first}
use Rattle.std.proofs.lemmas.Option.{slice_get-get_or}
use Rattle.tb_units.proofs.PlaceLemmas.{filter_none}
use Rattle.tb_terms.specs.declared.announcement.Announcement.{Announcement}
use Rattle.tb_terms.specs.declared.terms.Terms.{Terms}
use Rattle.tb_message.specs.declared.message.Entry.{Entry}
use Rattle.tb_holdings.specs.Book.{held_of as book_held}
use Rattle.tb_history.specs.declared.readings.HoldingLine.{HoldingLine}
use Rattle.tb_history.specs.Roster.{registrations, announcements, is_registered, is_of_bill, bill_of}
use Rattle.tb_history.specs.Holdings.{held_of}
use Rattle.tb_history.specs.Readings.{is_first, AreHoldingLines}
use Rattle.tb_history.proofs.SameLemmas.{is_same-equal, is_same-refl}
use Rattle.tb_history.proofs.SettledLemmas.{HaveNames, IsLegal-names}
use Rattle.tb_core.specs.declared.tables.Tables.{Tables}
use Rattle.tb_tables.specs.Auctions.{announced_in}
use Rattle.tb_ledger.specs.Accounting.{numbers_in}
use Rattle.tb_core.specs.Shown.{HasNoLine, is_shown}
use Rattle.tb_core.specs.House.{AreTied}
use Rattle.tb_core.proofs.ShownLemmas.{first-bill, held-tied, later-hidden}

-- the first announcement of a bill stands at the place of the bill
pub first-place : (announced : List Announcement) (a : Announcement) (place : ℕ)
    → HaveNames announced
    → place < length announced
    → a ≡ get_or announced place a
    → is_first (bill_of announced a.cusip) a ≡ true
    → position_or_len (is_of_bill a.cusip) announced ≡ place
first-place announced a place names short is first =
    let test : Announcement → Bool = is_of_bill a.cusip in
    let earliest : ℕ = position_or_len test announced in
    let passes : test (get_or announced place a) ≡ true =
    subst (λ (other : Announcement). test other ≡ true) is (is_same-refl a.cusip.bytes) in
    elim (cases_lt place earliest) [
      | inl before ↦ absurd (false≢true (sym (fails_before_first test announced place a before) ∙ passes))
      | inr behind ↦ elim (cases_lt earliest place) [
        | inl earlier ↦
            let found : bill_of announced a.cusip ≡ Some (get_or announced earliest a) =
            find_at test announced ∙ slice_get-get_or announced earliest a (omega arith) in
            absurd (names earliest place a earlier short
            (is_same-equal (get_or announced earliest a).auction a.auction
            (subst (λ (o : Option Announcement). is_first o a ≡ true) found first)
            ∙ ap (λ (other : Announcement). other.auction) is))
        | inr same ↦ omega arith
      ]
    ]

-- nothing more passes up to a place where none does between
pub filter-past : {X : Type 0} (p : X → Bool) (xs : List X) (from to : ℕ)
    → from ≤ to
    → to ≤ length xs
    → AllWithin (λ x. p x ≡ false) xs from to
    → filter p (take to xs) ≡ filter p (take from xs)
filter-past p xs from to order within fails =
    let long : length (take to xs) ≡ to = length-take-le to xs within in
    let none : All (λ x. p x ≡ false) (drop from (take to xs)) =
    λ k d short.
    let before : from + k < to = omega (arith, short, long, length-drop from (take to xs)) in
    subst (λ x. p x ≡ false) (sym (get_or-drop from (take to xs) k d ∙ get_or-take to xs (from + k) d before))
    (fails (from + k) d (omega arith) before) in
    ap (filter p) (sym (take-append-drop from (take to xs)))
    ∙ (filter-append p (take from (take to xs)) (drop from (take to xs))
    ∙ (ap (λ ys. filter p (take from (take to xs)) ++ ys) (filter_none p (drop from (take to xs)) none)
    ∙ (append-nil (filter p (take from (take to xs))) ∙ ap (filter p) (take-take from to xs order))))

-- lines up to a place are lines up to a later one, where no announcement between has one
pub lines-past : (h : List Entry) (participant : List ℕ) (auctions : List Terms) (lines : List HoldingLine)
    (from to : ℕ)
    → from ≤ to
    → to ≤ length auctions
    → AllWithin (λ (a : Announcement). is_shown h participant a ≡ false) (announced_in auctions) from to
    → AreHoldingLines h participant (filter (is_shown h participant) (announced_in (take from auctions))) lines
    → AreHoldingLines h participant (filter (is_shown h participant) (announced_in (take to auctions))) lines
lines-past h participant auctions lines from to order within none are =
    let shown : Announcement → Bool = is_shown h participant in
    let announcement : Terms → Announcement = λ (t : Terms). t.announcement in
    let short : to ≤ length (announced_in auctions) = omega (arith, within, length-map auctions announcement) in
    subst (λ (bills : List Announcement). AreHoldingLines h participant bills lines)
    (ap (filter shown) (sym (take-map announcement from auctions))
    ∙ (sym (filter-past shown (announced_in auctions) from to order short none)
    ∙ ap (filter shown) (take-map announcement to auctions))) are

-- an announcement at whose place the participant holds nothing isn't shown
nothing-hidden : (h : List Entry) (tables : Tables) (participant : List ℕ) (a : Announcement) (place : ℕ)
    → AreTied h tables
    → is_registered (registrations h) participant ≡ true
    → place < length (announced_in tables.auctions.list)
    → a ≡ get_or (announced_in tables.auctions.list) place a
    → book_held ((numbers_in tables.submitters.list tables.auctions.list).holder participant) place tables.accounts ≡ 0
    → is_shown h participant a ≡ false
nothing-hidden h tables participant a place tied known short is none =
    let all : List Announcement = announced_in tables.auctions.list in
    let names : HaveNames all = subst HaveNames (sym tied.auctions_are) (IsLegal-names h tied.legal) in
    elim (cases_Bool (is_first (bill_of (announcements h) a.cusip) a)) [
      | inl first ↦
          let own : is_first (bill_of all a.cusip) a ≡ true =
          subst (λ (announced : List Announcement). is_first (bill_of announced a.cusip) a ≡ true)
          (sym tied.auctions_are) first in
          let nothing : held_of h participant a.cusip ≡ 0 =
          sym (held-tied h tables participant a.cusip tied known (first-bill (announcements h) a first))
          ∙ (ap (λ security. book_held ((numbers_in tables.submitters.list tables.auctions.list).holder participant)
          security tables.accounts) (first-place all a place names short is own)
          ∙ none) in
          rw (first, nothing) refl
      | inr later ↦ later-hidden h participant a later
    ]

-- so none is shown among those of which the holder holds nothing
pub HasNoLine-nothing : (tables : Tables) (holder from to : ℕ)
    → to ≤ length tables.auctions.list
    → ((security : ℕ) → from ≤ security → security < to → book_held holder security tables.accounts ≡ 0)
    → HasNoLine tables holder from to
HasNoLine-nothing tables holder from to within none h participant tied known same = λ k d after before.
    let all : List Announcement = announced_in tables.auctions.list in
    let short : k < length all =
    omega (arith, before, within, length-map tables.auctions.list (λ (t : Terms). t.announcement)) in
    nothing-hidden h tables participant (get_or all k d) k tied known short
    (get_or_default all k d (get_or all k d) short)
    (subst (λ (number : ℕ). book_held number k tables.accounts ≡ 0) same (none k after before))
