-- The rows of auctions, and which of them a table has.
use Rattle.std.proofs.Common.{◌≡◌, ℕ, List, [], ◌∷◌, ◌++◌, ◌⊎◌, inl, inr, Bool, true, false, if◌then◌else◌, Option}
use Rattle.std.proofs.Common.{Some, None}
use Rattle.std.proofs.Common.{Contains, bytes_eq, refl, sym, ap, subst, ◌∙◌}
use Rattle.std.specs.List.{find}
use Rattle.std.proofs.lemmas.Bool.{cases_Bool}
use Rattle.tb_terms.specs.declared.announcement.Announcement.{Announcement}
use Rattle.tb_message.specs.declared.message.Entry.{Entry}
use Rattle.tb_message.specs.declared.query.Query.TheVariants as query
use Rattle.tb_history.specs.Entries.{is_same, operator}
use Rattle.tb_history.specs.Roster.{announcements}
use Rattle.tb_history.specs.declared.reading.Reading.TheVariants as reading
use Rattle.tb_history.proofs.ReadingLemmas.{IsReading-one}
use Rattle.tb_history.proofs.SameLemmas.{is_same-equal}
use Rattle.tb_register.specs.Rows.{Kept}
use Rattle.tb_register.specs.Making.{row_of}
use Rattle.tb_register.specs.Tables.{row_named, put_where, put_in, registered}
use Rattle.tb_register.proofs.MemberLemmas.{in_cons, in_front, in_none, in_rest}
use Rattle.tb_register.proofs.OrderLemmas.{same_name}
use Rattle.tb_register.proofs.TableLemmas.{named_added}
use Rattle.tb_filing.specs.Rows.{AreRowsOf, IsRowOf}

-- what is found passes the test
find-passes : {X : Type 0} (test : X → Bool) (xs : List X) (x : X) → find test xs ≡ Some x → test x ≡ true
find-passes test [] x found = absurd cc
find-passes test (y ∷ ys) x found =
    elim (cases_Bool (test y)) [
      | inl is ↦
          let one : Some y ≡ Some x = rw is at found in
          let same : y ≡ x = cc in
          subst (λ z. test z ≡ true) same is
      | inr not ↦ find-passes test ys x (rw not at found)
    ]

-- two rows of one auction are one
pub IsRowOf-one : (history : List Entry) (auction : List ℕ) (one other : Kept)
    → IsRowOf history auction one
    → IsRowOf history auction other
    → one ≡ other
IsRowOf-one history auction one other is is' =
    let same : reading.Results is.results ≡ reading.Results is'.results =
    IsReading-one history operator (query.Results auction) (reading.Results is.results) (reading.Results is'.results)
    is.told is'.told in
    let results : is.results ≡ is'.results = cc (same) in
    is.row_is ∙ ap row_of results ∙ sym is'.row_is

-- a row has its auction's name
pub IsRowOf-name : (history : List Entry) (auction : List ℕ) (row : Kept)
    → IsRowOf history auction row
    → row.auction ≡ auction
IsRowOf-name history auction row is =
    let announced : Announcement = is.told.0 in
    let named : is_same announced.auction auction ≡ true =
    find-passes (λ (a : Announcement). is_same a.auction auction) (announcements history) announced is.told.1 in
    ap (λ (k : Kept). k.auction) is.row_is
    ∙ ap (λ (a : Announcement). a.auction) is.told.2.terms
    ∙ is_same-equal announced.auction auction named

-- each of the rows of some auctions is the row of the auction of its name
pub row-among : (history : List Entry) (auctions : List (List ℕ)) (rows : List Kept) (row : Kept)
    → AreRowsOf history auctions rows
    → Contains rows row
    → IsRowOf history row.auction row
row-among history [] [] row are has = absurd (in_none row has)
row-among history [] (first ∷ rows) row are has = absurd are
row-among history (auction ∷ auctions) [] row are has = absurd are
row-among history (auction ∷ auctions) (first ∷ rows) row are has =
    elim (in_cons first rows row has) [
      | inl here ↦
          let is : IsRowOf history first.auction first =
          subst (λ (name : List ℕ). IsRowOf history name first)
          (sym (IsRowOf-name history auction first are.0)) are.0 in
          subst (λ (r : Kept). IsRowOf history r.auction r) here is
      | inr later ↦ row-among history auctions rows row are.1 later
    ]

-- one auction more has one row more
pub AreRowsOf-more : (history : List Entry) (auctions : List (List ℕ)) (rows : List Kept)
    (auction : List ℕ) (row : Kept)
    → AreRowsOf history auctions rows
    → IsRowOf history auction row
    → AreRowsOf history (auctions ++ auction ∷ []) (rows ++ row ∷ [])
AreRowsOf-more history [] [] auction row are is = (is, tt)
AreRowsOf-more history [] (first ∷ rows) auction row are is = absurd are
AreRowsOf-more history (name ∷ auctions) [] auction row are is = absurd are
AreRowsOf-more history (name ∷ auctions) (first ∷ rows) auction row are is =
    (are.0, AreRowsOf-more history auctions rows auction row are.1 is)

-- what a table has of a name behind a put it had before, or it is the row
named_put_in : (row : Kept) (table : List Kept) (name : List ℕ) (there : Kept)
    → row_named name (put_in row table) ≡ Some there
    → (row_named name table ≡ Some there) ⊎ (row ≡ there)
named_put_in row table name there is = by_found (row_named row.auction table) refl is
  where
    by_name : (b : Bool) → (if b then Some row else row_named name table) ≡ Some there
        → (row_named name table ≡ Some there) ⊎ (row ≡ there)
    by_name true e = inr (cc (e))
    by_name false e = inl e

    by_found : (found : Option Kept) → row_named row.auction table ≡ found
        → row_named name (put_where row table found) ≡ Some there
        → (row_named name table ≡ Some there) ⊎ (row ≡ there)
    by_found None e has = by_name (bytes_eq row.auction name) (sym (named_added name row table e) ∙ has)
    by_found (Some other) e has = inl has

-- and behind any number of puts it had it before, or it is one of the rows
pub named_registered : (rows table : List Kept) (name : List ℕ) (there : Kept)
    → row_named name (registered table rows) ≡ Some there
    → (row_named name table ≡ Some there) ⊎ Contains rows there
named_registered [] table name there is = inl is
named_registered (row ∷ rows) table name there is =
    elim (named_registered rows (put_in row table) name there is) [
      | inl before ↦ elim (named_put_in row table name there before) [
        | inl was ↦ inl was
        | inr here ↦ inr (subst (Contains (row ∷ rows)) here (in_front row rows))
      ]
      | inr later ↦ inr (in_rest row rows there later)
    ]

-- a row that a table has under a name has that name
pub named-name : (name : List ℕ) (table : List Kept) (there : Kept) → row_named name table ≡ Some there
    → there.auction ≡ name
named-name name [] there is = absurd (cc (is))
named-name name (row ∷ rows) there is =
    by_name (named-name name rows there) (bytes_eq row.auction name) refl is
  where
    by_name : (row_named name rows ≡ Some there → there.auction ≡ name)
        → (b : Bool)
        → bytes_eq row.auction name ≡ b
        → (if b then Some row else row_named name rows) ≡ Some there
        → there.auction ≡ name
    by_name later true e has =
        let same : row ≡ there = cc (has) in
        subst (λ (k : Kept). k.auction ≡ name) same (same_name row.auction name e)
    by_name later false e has = later has
