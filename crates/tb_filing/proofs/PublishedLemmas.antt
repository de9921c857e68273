-- The published auctions of a history, by their places.
use Rattle.std.proofs.Common.{◌≡◌, ℕ, zero, suc, ◌+◌, ◌<◌, ◌≤◌, List, [], ◌∷◌, ◌++◌, Bool, true, false, Some}
use Rattle.std.proofs.Common.{None}
use Rattle.std.proofs.Common.{length, take, drop, refl, ap, subst, arith, length-append}
use Rattle.std.specs.Prelude.{slice_get, codes, ◌||◌}
use Rattle.std.proofs.Math.Seq.{take-nil}
use Rattle.std.specs.List.{flat_map}
use Rattle.tb_units.specs.Names.{is_name, name_of}
use Rattle.tb_message.specs.declared.message.Entry.{Entry}
use Rattle.tb_message.specs.declared.message.Message.{Message}
use Rattle.tb_message.specs.declared.message.Message.TheVariants as message
use Rattle.tb_message.specs.declared.query.Query.TheVariants as query
use Rattle.tb_register.proofs.OrderLemmas.{name_itself}
use Rattle.tb_history.specs.Answer.{query_refusal}
use Rattle.tb_history.specs.Entries.{is_same, operator, published_by}
use Rattle.tb_history.specs.Legal.{IsLegal}
use Rattle.tb_history.specs.Readings.{IsReading}
use Rattle.tb_history.specs.declared.reading.Reading.{Reading}
use Rattle.tb_history.specs.declared.reading.Reading.TheVariants as reading
use Rattle.tb_history.specs.declared.readings.Results.{Results}
use Rattle.tb_history.specs.Roster.{is_named, is_published, publications}
use Rattle.tb_history.proofs.ClosedLemmas.{IsClosed, published-closed}

-- the auction at a place stands among them
slice_get-named : (names : List (List ℕ)) (place : ℕ) (name : List ℕ) → slice_get names place ≡ Some name
    → is_named names name ≡ true
slice_get-named [] place name is = absurd (cc (is))
slice_get-named (first ∷ names) zero name is =
    let same : first ≡ name = cc (is) in
    rw (same, name_itself name) refl
slice_get-named (first ∷ names) (suc place) name is =
    let later = slice_get-named names place name is in
    by_test (is_same first name) later
  where
    by_test : (b : Bool) → is_named names name ≡ true → b || is_named names name ≡ true
    by_test true named = refl
    by_test false named = named

-- so it is published
pub place-published : (history : List Entry) (place : ℕ) (auction : List ℕ)
    → slice_get (publications history) place ≡ Some auction
    → is_published history auction ≡ true
place-published history place auction is = slice_get-named (publications history) place auction is

next_is : (place : ℕ) → suc place ≡ place + 1
next_is place = omega arith

take-suc : {X : Type 0} (xs : List X) (place : ℕ) (x : X) → slice_get xs place ≡ Some x
    → take (suc place) xs ≡ take place xs ++ x ∷ []
take-suc [] place x is = absurd (cc (is))
take-suc (y ∷ ys) zero x is = let same : y ≡ x = cc (is) in ap (λ z. z ∷ []) same
take-suc (y ∷ ys) (suc place) x is = ap (λ zs. y ∷ zs) (take-suc ys place x is)

-- the auctions before the next place are those before this one, and this one
pub take-next : {X : Type 0} (xs : List X) (place : ℕ) (x : X) → slice_get xs place ≡ Some x
    → take (place + 1) xs ≡ take place xs ++ x ∷ []
take-next xs place x is = subst (λ n. take n xs ≡ take place xs ++ x ∷ []) (next_is place) (take-suc xs place x is)

drop-suc : {X : Type 0} (xs : List X) (place : ℕ) (x : X) → slice_get xs place ≡ Some x
    → xs ≡ take place xs ++ x ∷ drop (suc place) xs
drop-suc [] place x is = absurd (cc (is))
drop-suc (y ∷ ys) zero x is = let same : y ≡ x = cc (is) in ap (λ z. z ∷ ys) same
drop-suc (y ∷ ys) (suc place) x is = ap (λ zs. y ∷ zs) (drop-suc ys place x is)

-- this one and those behind it are all that is left
pub drop-here : {X : Type 0} (xs : List X) (place : ℕ) (x : X) → slice_get xs place ≡ Some x
    → xs ≡ take place xs ++ x ∷ drop (place + 1) xs
drop-here xs place x is =
    subst (λ n. xs ≡ take place xs ++ x ∷ drop n xs) (next_is place) (drop-suc xs place x is)

-- there is one at each place before their number
pub within : {X : Type 0} (xs : List X) (place : ℕ) (x : X) → slice_get xs place ≡ Some x → place < length xs
within [] place x is = absurd (cc (is))
within (y ∷ ys) zero x is = omega arith
within (y ∷ ys) (suc place) x is = omega (arith, within ys place x is)

-- and none behind it
pub past : {X : Type 0} (xs : List X) (place : ℕ) → slice_get xs place ≡ None → place ≤ length xs → take place xs ≡ xs
past [] place is few = take-nil place
past (y ∷ ys) zero is few = absurd (cc (is))
past (y ∷ ys) (suc place) is few = ap (λ zs. y ∷ zs) (past ys place is (omega (arith, few)))

-- an entry publishes at most one auction
published_by-few : (sent : Message) → length (published_by sent) ≤ 1
published_by-few (message.Publish auction) = omega arith
published_by-few other = omega arith

-- so there are no more of them than entries
pub publications-few : (history : List Entry) → length (publications history) ≤ length history
unfolding publications
publications-few [] = omega arith
publications-few (entry ∷ history) =
    omega (
      arith,
      length-append (published_by entry.message) (flat_map (λ (e : Entry). published_by e.message) history),
      published_by-few entry.message,
      publications-few history,
    )

-- the operator's name is a name
pub operator-named : name_of (codes "operator") ≡ Some operator
unfolding operator is_name
operator-named = refl

-- the operator isn't refused the results of a published auction
pub results-told : (history : List Entry) (auction : List ℕ)
    → IsLegal history
    → is_published history auction ≡ true
    → query_refusal history operator (query.Results auction) ≡ None
unfolding operator
results-told history auction legal published =
    let closed : IsClosed history auction = published-closed history auction legal published in
    rw (closed.announced, published) refl

-- and what it reads are results
pub results-read : (history : List Entry) (caller auction : List ℕ) (told : Reading)
    → IsReading history caller (query.Results auction) told
    → (results : Results) × (told ≡ reading.Results results)
results-read history caller auction (reading.Results results) is = (results, refl)
results-read history caller auction other is = absurd is
