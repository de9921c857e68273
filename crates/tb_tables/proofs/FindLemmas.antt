-- What look-ups in the tables give.
use Rattle.std.proofs.Common.{◌≡◌, ◌||◌, Bool, not, nat_lt, is_some, Option, Some, None, inl, inr, List, [], ◌∷◌, refl, length, arith}
use Rattle.std.specs.List.{find, list_any, position, position_or_len}
use Rattle.std.proofs.lemmas.Bool.{cases_Bool, ltb-false}
use Rattle.std.proofs.lemmas.List.Sums.{prefix_len-le-length}
use Rattle.tb_terms.specs.declared.announcement.Announcement.{Announcement}
use Rattle.tb_terms.specs.declared.terms.Terms.{Terms}
use Rattle.tb_tables.specs.Auctions.{announced_in, announcement_in}

-- where nothing passes the place is behind the last element
pub position-none : {X : Type 0} (p : X → Bool) (xs : List X) → position p xs ≡ None → position_or_len p xs ≡ length xs
position-none p xs none =
    elim (cases_Bool (nat_lt (position_or_len p xs) (length xs))) [
      | inl below ↦ let wrong : Some (position_or_len p xs) ≡ None = rw below at none in cc
      | inr past ↦ omega (
        arith,
        ltb-false (position_or_len p xs) (length xs) past,
        prefix_len-le-length (λ x. not (p x)) xs,
      )
    ]

-- an element passes one of two tests just where one passes the first or one the second
pub any_or : {X : Type 0} (p q : X → Bool) (xs : List X)
    → list_any (λ x. p x || q x) xs ≡ (list_any p xs || list_any q xs)
any_or p q [] = refl
any_or p q (x ∷ xs) =
    elim (cases_Bool (p x)) [
      | inl first ↦ rw first refl
      | inr other ↦ elim (cases_Bool (q x)) [
        | inl second ↦ elim (cases_Bool (list_any p xs)) [
          | inl some ↦ rw (other, second, some) refl
          | inr none ↦ rw (other, second, none) refl
        ]
        | inr neither ↦ rw (other, neither) (any_or p q xs)
      ]
    ]

-- the announcement that is found is that of the terms that are found
pub announced_at : (test : Announcement → Bool) (auctions : List Terms)
    → announcement_in (find (λ (terms : Terms). test terms.announcement) auctions) ≡ find test (announced_in auctions)
announced_at test [] = refl
announced_at test (terms ∷ auctions) =
    elim (cases_Bool (test terms.announcement)) [
      | inl is ↦ rw is refl
      | inr isnt ↦ rw isnt (announced_at test auctions)
    ]

-- there is an announcement just where there are terms
pub announced_some : (found : Option Terms) → is_some (announcement_in found) ≡ is_some found
announced_some None = refl
announced_some (Some terms) = refl
